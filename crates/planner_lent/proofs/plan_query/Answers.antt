-- What is lent is planned as the query is.
use mathlib.Core.Path.{ap, ◌∙◌}
use native.Mathlib.Omega.{arith}
use borrow.Author.Rules.{rules}
use Rattle.refusal.specs.Verdict.{answer}
use Rattle.planner.specs.Answered.{Planned}
use Rattle.planner_lent.proofs.Whole.{planned-whole}
use Rattle.planner_lent.proofs.plan_query.Goals as goal

pub returns : goal.returns
returns c =
    c.plan-2.ensures ∙
    ap (λ (p : Planned). answer p.verdict p.plan) (planned-whole c.args.query (search rules) (search rules) (omega arith) (omega arith))
