-- What a call says: whether it is refused, and what it answers where it is not.
use Rattle.std.specs.Prelude.{ℕ, List}
use Rattle.refusal.specs.Verdict.{Verdict}
use Rattle.plan.specs.declared.Plan.{Plan}

-- the order as statement numbers, zeros past the last, the plan and its cost; all zeros where it is refused
pub record Found : Type 0 where
  pub verdict : Verdict
  pub order : List ℕ
  pub plan : Plan
  pub cost : ℕ
