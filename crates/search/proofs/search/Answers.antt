-- 10 to 15, 17, 18, else the first plan of least cost.
use mathlib.Core.Path.{◌≡◌, refl, sym, ◌∙◌}
use borrow.Author.Rules.{rules}
use Rattle.std.specs.Prelude.{Ok}
use Rattle.std.proofs.lemmas.Result.{err_from_is_err_and}
use Rattle.query_check.specs.Refusals.{query_fault}
use Rattle.planner.proofs.Answered.{answer-fine}
use Rattle.search.specs.Best.{Searchable}
use Rattle.search.proofs.Answer.{none_found, some-found, search-refused, search-many, search-first}
use Rattle.search.proofs.search.Goals as goal

pub returns-in_err-check_query : goal.returns-in_err-check_query
returns-in_err-check_query c =
    let p = err_from_is_err_and c.from_residual.result c.from_residual.ensures.1 in
    rw (p.1, p.2, search-refused c.args.query _ (sym c.check_query.ensures ∙ c.in_err-check_query.was)) refl

pub returns-then-query-gt-MAX_SEARCHED : goal.returns-then-query-gt-MAX_SEARCHED
returns-then-query-gt-MAX_SEARCHED c =
    let e : query_fault c.args.query ≡ Ok tt = sym c.check_query.ensures ∙ c.in_ok-check_query.was in
    rw (c.refuse.ensures, search-many c.args.query e c.if-query-gt-MAX_SEARCHED.true) refl

pub returns-in_default : goal.returns-in_default
returns-in_default c =
    let q = c.args.query in
    let e : query_fault q ≡ Ok tt = sym c.check_query.ensures ∙ c.in_ok-check_query.was in
    let able : Searchable q = record { clear = record { statements_sized = search rules; selects_sized = search rules; fine = e }; few = c.if-query-gt-MAX_SEARCHED.false } in
    let n = none_found q able (sym c.in_default.is ∙ c.weigh_orders.ensures) in
    rw (c.refuse-in_default.ensures, search-first q e c.if-query-gt-MAX_SEARCHED.false, n) refl

pub plan_in-requires-clause-order : goal.plan_in-requires-clause-order
plan_in-requires-clause-order c =
    let q = c.args.query in
    let e : query_fault q ≡ Ok tt = sym c.check_query.ensures ∙ c.in_ok-check_query.was in
    let able : Searchable q = record { clear = record { statements_sized = search rules; selects_sized = search rules; fine = e }; few = c.if-query-gt-MAX_SEARCHED.false } in
    (some-found q able _ (sym c.in-Some.is ∙ c.weigh_orders.ensures)).ordered.is_order

pub unwrap-plan-requires : goal.unwrap-plan-requires
unwrap-plan-requires c =
    let q = c.args.query in
    let e : query_fault q ≡ Ok tt = sym c.check_query.ensures ∙ c.in_ok-check_query.was in
    let able : Searchable q = record { clear = record { statements_sized = search rules; selects_sized = search rules; fine = e }; few = c.if-query-gt-MAX_SEARCHED.false } in
    let b = some-found q able _ (sym c.in-Some.is ∙ c.weigh_orders.ensures) in
    rw (c.plan_in.ensures, b.accepted) refl

pub returns : goal.returns
returns c =
    let q = c.args.query in
    let e : query_fault q ≡ Ok tt = sym c.check_query.ensures ∙ c.in_ok-check_query.was in
    let able : Searchable q = record { clear = record { statements_sized = search rules; selects_sized = search rules; fine = e }; few = c.if-query-gt-MAX_SEARCHED.false } in
    let b = some-found q able _ (sym c.in-Some.is ∙ c.weigh_orders.ensures) in
    let p = (answer-fine _ _ _ (sym c.plan_in.ensures ∙ c.unwrap-plan.ensures)).1 in
    rw (search-first q e c.if-query-gt-MAX_SEARCHED.false, ← b.answers, ← p) refl
