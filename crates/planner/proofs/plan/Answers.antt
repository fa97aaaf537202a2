-- Past the first `?` nothing of 10 to 15 is refused, and past the second not 16.
use mathlib.Core.Path.{◌≡◌, refl, sym, ◌∙◌}
use native.Mathlib.Omega.{arith}
use borrow.Author.Rules.{rules}
use lib.ListN.{length}
use mathlib.Core.List.{[]}
use Rattle.std.specs.Prelude.{Ok, Err}
use Rattle.std.proofs.lemmas.Result.{err_from_is_err_and}
use Rattle.query.specs.Query.{statements_of}
use Rattle.query_check.specs.Refusals.{query_fault}
use Rattle.capacity.specs.Capacity.{max_statements}
use Rattle.planner.specs.Refusals.{bound_twice_fault, plan_fault}
use Rattle.planner.specs.Planning.{plan_for, plan_of}
use Rattle.planner.proofs.Accepted.{query-fits, query-plannable, plannable-lent, initialized-verdict, initialized-fine}
use Rattle.planner.proofs.Answered.{answer-refused, answer-fine}
use Rattle.planner.proofs.plan.Goals as goal

pub shared_ref_as_front-statements : goal.shared_ref_as_front-statements
shared_ref_as_front-statements c = omega (arith, query-fits c.args.query (sym c.check_query.ensures ∙ c.in_ok-check_query.was))

pub shared_ref_as_front-select : goal.shared_ref_as_front-select
shared_ref_as_front-select c = omega (arith, query-fits c.args.query (sym c.check_query.ensures ∙ c.in_ok-check_query.was))

pub initialize_scans-requires : goal.initialize_scans-requires
initialize_scans-requires c =
    let q = c.args.query in
    let h : length q.where_statements.items ≡ max_statements = search rules in
    let p = query-plannable q (sym c.check_query.ensures ∙ c.in_ok-check_query.was) in
    plannable-lent _ _ _ (omega (arith, p.few_statements)) p

pub initialize_slots-requires : goal.initialize_slots-requires
initialize_slots-requires c =
    let q = c.args.query in
    let h : length q.where_statements.items ≡ max_statements = search rules in
    let p = query-plannable q (sym c.check_query.ensures ∙ c.in_ok-check_query.was) in
    plannable-lent _ _ _ (omega (arith, p.few_statements)) p

pub returns-in_err-scans : goal.returns-in_err-scans
unfolding plan_of plan_fault
returns-in_err-scans c =
    let q = c.args.query in
    let e : query_fault q ≡ Ok tt = sym c.check_query.ensures ∙ c.in_ok-check_query.was in
    let f : bound_twice_fault [] (statements_of q) 0 ≡ Err c.in_err-scans.field-0.0 =
    sym (initialized-verdict _ _) ∙ answer-refused _ _ _ (sym c.initialize_scans.ensures ∙ c.in_err-scans.was) in
    let p = err_from_is_err_and c.from_residual-in_err-scans.result c.from_residual-in_err-scans.ensures.1 in
    rw (p.1, p.2, e, f) refl

pub returns : goal.returns
unfolding plan_of plan_fault plan_for
returns c =
    let q = c.args.query in
    let e : query_fault q ≡ Ok tt = sym c.check_query.ensures ∙ c.in_ok-check_query.was in
    let a = answer-fine _ _ _ (sym c.initialize_scans.ensures ∙ c.in_ok-scans.was) in
    let f : bound_twice_fault [] (statements_of q) 0 ≡ Ok tt = sym (initialized-verdict _ _) ∙ a.0 in
    rw (e, f, ← a.1, initialized-fine _ _ f, c.initialize_slots.ensures, c.select_slots.ensures) refl
