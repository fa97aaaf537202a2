-- What a call says: whether it is refused, and what it answers where it is not.
use Rattle.std.specs.Prelude.{ℕ, List}
use Rattle.refusal.specs.Verdict.{Verdict}

-- the types of the variables; zeros where they are refused
pub record Inferred : Type 0 where
  pub verdict : Verdict
  pub types : List ℕ
