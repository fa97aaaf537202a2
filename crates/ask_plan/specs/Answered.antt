-- What a call says: whether it is refused, and what it answers where it is not.
use Rattle.std.specs.Prelude.{ℕ}
use Rattle.refusal.specs.Verdict.{Verdict}
use Rattle.plan.specs.declared.Plan.{Plan}

-- a plan and its cost; the empty plan and 0 where it is refused
pub record Answer : Type 0 where
  pub verdict : Verdict
  pub plan : Plan
  pub cost : ℕ
