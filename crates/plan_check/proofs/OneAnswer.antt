-- No second answer fits the promise of this crate: what `check_invariants` says of a plan is one answer.
use mathlib.Core.Path.{◌≡◌}
use Rattle.refusal.specs.Verdict.{Verdict}
use Rattle.refusal.proofs.OneAnswer.{one_answer}
use Rattle.plan.specs.declared.Plan.{Plan}
use Rattle.plan_check.specs.Check.{check_of}

pub check-one : (p : Plan) (r r' : Verdict) → r ≡ check_of p → r' ≡ check_of p → r ≡ r'
check-one p r r' = one_answer
