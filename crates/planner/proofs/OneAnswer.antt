-- No second answer fits the promises of this crate.
use mathlib.Core.Path.{◌≡◌}
use Rattle.refusal.specs.Verdict.{Refusal, Verdict}
use Rattle.refusal.proofs.OneAnswer.{one_answer}
use Rattle.query.specs.declared.Query.{Query}
use Rattle.planner.specs.Refusals.{plan_fault}
use Rattle.planner.specs.Planning.{plan_of}
use Rattle.std.specs.Prelude.{Result}
use Rattle.refusal.specs.Verdict.{answer}
use Rattle.plan.specs.declared.Plan.{Plan}

pub plan-one : (q : Query) (r r' : Result Plan Refusal) → r ≡ answer (plan_of q).verdict (plan_of q).plan → r' ≡ answer (plan_of q).verdict (plan_of q).plan → r ≡ r'
plan-one q r r' = one_answer

pub plannable-one : (q : Query) (r r' : Verdict) → r ≡ plan_fault q → r' ≡ plan_fault q → r ≡ r'
plannable-one q r r' = one_answer
