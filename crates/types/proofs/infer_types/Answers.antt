-- `infer_types`: past the checks the statements can be typed, and what they answer is the query's answer.
use Rattle.std.proofs.Common.{◌≡◌, rules, Ok, true, arith}
use Rattle.planner.specs.Refusals.{plan_fault}
use Rattle.types.specs.Types.{is_table}
use Rattle.types.proofs.Variables.{plannable}
use Rattle.types.proofs.Answer.{query-typable, answered}
use Rattle.types.proofs.infer_types.Goals as goal

pub shared_ref_as_front-infer_statements : goal.shared_ref_as_front-infer_statements
shared_ref_as_front-infer_statements c =
    let fine : plan_fault c.args.query ≡ Ok tt = search rules in
    omega (arith, (plannable c.args.query fine).few_statements)

pub infer_statements-requires : goal.infer_statements-requires
infer_statements-requires c =
    let fine : plan_fault c.args.query ≡ Ok tt = search rules in
    let ascends : is_table c.args.table.now ≡ true = search rules in
    query-typable _ fine _ ascends

pub returns : goal.returns
returns c =
    let fine : plan_fault c.args.query ≡ Ok tt = search rules in
    let ascends : is_table c.args.table.now ≡ true = search rules in
    rw (answered _ fine _ ascends) at c.infer_statements.ensures
