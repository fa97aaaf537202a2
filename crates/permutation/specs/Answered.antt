-- What a call says: whether it is refused, and what it answers where it is not.
use Rattle.std.specs.Prelude.{Bool}
use Rattle.refusal.specs.Verdict.{Verdict}
use Rattle.permutation.specs.declared.Permutations.{Permutations}
use Rattle.permutation.specs.declared.Swap.{Swap}

-- a fresh state; that of no elements where it is refused
pub record Fresh : Type 0 where
  pub verdict : Verdict
  pub state : Permutations

-- the next swap, if there is one; where there is none, or it is refused, (0, 0)
pub record NextSwap : Type 0 where
  pub verdict : Verdict
  pub is_some : Bool
  pub swap : Swap

-- the next swap, and the state after it
pub record Step : Type 0 where
  pub next : NextSwap
  pub state : Permutations
