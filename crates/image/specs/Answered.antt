-- What a call says: whether it is refused, and what it answers where it is not.
use Rattle.std.specs.Prelude.{ℕ}
use Rattle.refusal.specs.Verdict.{Verdict}
use Rattle.plan.specs.declared.Plan.{Plan}

-- how long the image is; 0 where it is refused
pub record Stored : Type 0 where
  pub verdict : Verdict
  pub length : ℕ

-- the plan that the bytes say; the empty one where they are refused
pub record PlanRead : Type 0 where
  pub verdict : Verdict
  pub plan : Plan
