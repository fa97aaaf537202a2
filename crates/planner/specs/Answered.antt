-- What a call says: whether it is refused, and what it answers where it is not.
use Rattle.std.specs.Prelude.{ℕ, List}
use Rattle.refusal.specs.Verdict.{Verdict}
use Rattle.plan.specs.declared.Plan.{Plan}
use Rattle.plan.specs.declared.Scan.{Scan}

-- a plan; the empty one where it is refused
pub record Planned : Type 0 where
  pub verdict : Verdict
  pub plan : Plan

-- the scans of statements, and how many slots they name; or where one binds a variable twice, and zeros
pub record Initialized : Type 0 where
  pub verdict : Verdict
  pub scans : List Scan
  pub slot_count : ℕ
