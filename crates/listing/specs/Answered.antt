-- What a call says: whether it is refused, and what it answers where it is not.
use Rattle.std.specs.Prelude.{List, Bool}
use Rattle.refusal.specs.Verdict.{Verdict}
use Rattle.plan.specs.declared.Plan.{Plan}
use Rattle.plan.specs.declared.Scan.{Scan}

-- whether the next plan is new, and the plan; where it is refused, not, and the plan as it was given
pub record NextPlan : Type 0 where
  pub verdict : Verdict
  pub is_new : Bool
  pub plan : Plan

-- the same of scans without a plan
pub record NextScans : Type 0 where
  pub scans : List Scan
  pub is_new : Bool
  pub verdict : Verdict
