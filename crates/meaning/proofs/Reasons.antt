-- A refused query has a reason: each of 10 to 16 is given only where its sentence is true, at the lowest place, one of them wherever planning
-- gives no plan, and none where that of a lower number is true.
use mathlib.Core.Path.{◌≡◌, refl, sym, ap, ◌∙◌}
use mathlib.Core.Logic.{◌⊎◌, inl, inr, ⊎_elim, ◌↔◌}
use Prim.Native.Nat.{ℕ, ◌+◌, ◌≤◌, ◌<◌}
use native.Mathlib.Nat.{zero-add}
use native.Mathlib.Omega.{arith}
use mathlib.Core.List.{List, []}
use mathlib.Core.Bool.{not, false≢true}
use borrow.Author.Tests.{lt-ltb, ltb-true, leb-true, le-leb, eqb-true, not-true}
use lib.ListN.{get_or}
use lib.Dec.{ltb, leb, eqb}
use Rattle.lists.specs.Span.{span}
use Rattle.lists.proofs.Span.{length-span, get_or-span}
use Rattle.capacity.specs.Capacity.{max_statements, max_slots, max_selects}
use Rattle.refusal.specs.Verdict.{Verdict}
use Rattle.std.specs.Prelude.{Ok, Err}
use Rattle.refusal.specs.Verdict.{refused, refuse_if, number_of, unless}
use Rattle.refusal.proofs.Fine.{or-fine}
use Rattle.refusal.proofs.First.{Fails, each-passes}
use Rattle.query.specs.declared.Var.{Var}
use Rattle.query.specs.declared.Statement.{Statement}
use Rattle.query.specs.declared.Query.{Query}
use Rattle.query.specs.Query.{statements_of, selects_of, named, zero_var, zero_statement}
use Rattle.query_check.specs.Refusals.{constants, high, statements_fault, selects_fault, unused_fault, capacity_fault, variables_fault, query_fault}
use Rattle.query_check.proofs.Capacity.{Fits, capacity_fine}
use Rattle.plan.specs.declared.Plan.{Plan}
use Rattle.plan.specs.Plan.{empty_plan}
use Rattle.planner.specs.Refusals.{plan_fault}
use Rattle.planner.specs.Answered.{Planned}
use Rattle.planner.specs.Planning.{plan_for, plan_of}
use Rattle.planner.proofs.Accepted.{query-fits}
use Rattle.planned.proofs.Places.{selects-below, all_named}
use Rattle.planned.proofs.Passes.{either-verdict}
use Rattle.meaning.specs.Reasons.{HighStatement, HighSelect, Unnamed, QueryReason, over_statements, over_slots, over_selects, no_selects, high_statement, high_select, unused, query_refusal, PlanReason, of_query, new_twice, plan_refusal, PlanningExplained}
use Rattle.meaning.proofs.Parts.{parts}
use Rattle.meaning.proofs.Sound.{bound-explained, bound-sound}
use Rattle.planner.proofs.Numbers.{if-within, or-within, or-first, if-first, first_within, bound-within, capacity-within, query-within}
use Rattle.meaning.proofs.Explained.{Explained, or-explained, if-explained, first-explained, high-names, names-high}

module _ (q : Query) where
  abbrev n : ℕ
  n = q.variable_count

  abbrev ss : List Statement
  ss = statements_of q

  abbrev vs : List Var
  vs = selects_of q

  abbrev m : ℕ
  m = q.where_statements.count

  -- 14, statements
  high-fails : (j : ℕ) → HighStatement q j ↔ Fails (high n) zero_statement ss j
  high-fails j =
      let s = get_or ss j zero_statement in (
        λ w. (w.0, names-high n s.entity.0 s.value w.1 w.2 w.3),
        λ f. let w = high-names n s.entity.0 s.value f.1 in (f.0, w.0, w.1, w.2),
      )

  statements-explained : Explained (query_refusal {q = q}) (statements_fault n ss 0)
  unfolding statements_fault
  statements-explained =
      first-explained query_refusal (high n) 14 zero_statement (HighStatement q) 0 ss high-fails (λ i h. (high_statement i h, ap (refused 14) (zero-add i)))

  none-high : statements_fault n ss 0 ≡ Ok tt → (j : ℕ) → HighStatement q j → ⊥
  unfolding statements_fault
  none-high low j w = let f = (high-fails j).0 w in false≢true (sym ((each-passes _ _ zero_statement 0 ss).0 low j f.0) ∙ f.1)

  select-low : selects_fault n vs m ≡ Ok tt → (j : ℕ) → HighSelect q j → ⊥
  select-low low j w = omega (arith, w.1, selects-below n vs m low j zero_var w.0)

  -- 14, selects
  selects-explained : ((j : ℕ) → HighStatement q j → ⊥) → Explained (query_refusal {q = q}) (selects_fault n vs m)
  unfolding selects_fault
  selects-explained none =
      first-explained query_refusal (λ (v : Var). leb n v.0) 14 zero_var (HighSelect q) m vs
      (λ j. (λ w. (w.0, le-leb _ _ w.1), λ f. (f.0, leb-true _ _ f.1)))
      (λ i h. (high_select none i h, refl))

  -- 15
  unused-explained : Explained (query_refusal {q = q}) (unused_fault ss n 0)
  unfolding unused_fault
  unused-explained =
      let long = length-span 0 n in
      let at : (v : ℕ) → v < n → get_or (span 0 n) v 0 ≡ v = λ v h. get_or-span 0 n v h ∙ zero-add v in
      first-explained query_refusal (λ (v : ℕ). not (named ss v)) 15 0 (Unnamed q) 0 (span 0 n)
      (λ v. (
        λ w. (omega (arith, w.0), rw (at v w.0, w.1) refl),
        λ f. let l : v < n = omega (arith, f.0) in (l, not-true _ (rw (at v l) at f.1)),
      ))
      (λ v h. (unused v h, ap (refused 15) (zero-add v)))

  -- 10 to 13
  capacity-explained : Explained (query_refusal {q = q}) (capacity_fault n m ss q.select.count)
  unfolding capacity_fault
  capacity-explained =
      or-explained query_refusal (refuse_if (ltb max_statements m) 10 0) _
      (if-explained query_refusal (ltb max_statements m) 10 0 (λ t. (over_statements (omega (arith, ltb-true max_statements m t)), refl)))
      (λ _.
      or-explained query_refusal (refuse_if (ltb max_slots (n + constants ss)) 11 0) _
      (if-explained query_refusal (ltb max_slots (n + constants ss)) 11 0 (λ t. (over_slots (omega (arith, ltb-true max_slots (n + constants ss) t)), refl)))
      (λ _.
      or-explained query_refusal (refuse_if (ltb max_selects q.select.count) 12 0) _
      (if-explained query_refusal (ltb max_selects q.select.count) 12 0 (λ t. (over_selects (omega (arith, ltb-true max_selects q.select.count t)), refl)))
      (λ _. if-explained query_refusal (eqb q.select.count 0) 13 0 (λ t. (no_selects (eqb-true _ _ t), refl)))))

  pub query-explained : Explained (query_refusal {q = q}) (query_fault q)
  unfolding query_fault variables_fault
  query-explained =
      or-explained query_refusal (capacity_fault n m ss q.select.count) _ capacity-explained
      (λ _.
      or-explained query_refusal (statements_fault n ss 0) _ statements-explained
      (λ low.
      or-explained query_refusal (selects_fault n vs m) _ (selects-explained (none-high low)) (λ _. unused-explained)))

  -- and where none is refused, none of the sentences is true
  pub query-sound : query_fault q ≡ Ok tt → QueryReason q → ⊥
  query-sound fine (over_statements h) = omega (arith, h, (query-fits q fine).few_statements)
  query-sound fine (over_slots h) = omega (arith, h, (query-fits q fine).few_slots)
  query-sound fine (over_selects h) = omega (arith, h, (query-fits q fine).few_selects)
  query-sound fine (no_selects h) = omega (arith, h, (query-fits q fine).some_select)
  query-sound fine (high_statement i h) = none-high (parts q fine).statements_fine i h.here
  query-sound fine (high_select z i h) = select-low (parts q fine).selects_fine i h.here
  query-sound fine (unused v h) =
      let w = h.here in
      false≢true (sym w.1 ∙ rw zero-add at (all_named ss n 0 (parts q fine).used_fine v w.0))

  -- and none of a lower number than the one given
  in-capacity : (k : ℕ) → (Fits n m ss q.select.count → ⊥) → number_of (capacity_fault n m ss q.select.count) ≤ k → number_of (query_fault q) ≤ k
  unfolding query_fault
  in-capacity k unfit h = or-first k (capacity_fault n m ss q.select.count) _ (λ e. unfit (capacity_fine n m ss q.select.count e)) h

  in-variables : (k : ℕ) → 13 ≤ k → number_of (variables_fault n m ss vs) ≤ k → number_of (query_fault q) ≤ k
  unfolding query_fault
  in-variables k low h = or-within k (capacity_fault n m ss q.select.count) _ (capacity-within k low n m ss q.select.count) h

  pub query-first : (w : QueryReason q) → number_of (query_fault q) ≤ number_of (query_refusal w)
  unfolding variables_fault capacity_fault statements_fault selects_fault
  query-first (over_statements h) =
      in-capacity 10 (λ f. omega (arith, h, f.few_statements)) (if-first 10 (ltb max_statements m) 10 0 _ (lt-ltb _ _ h) (omega arith))
  query-first (over_slots h) =
      in-capacity 11 (λ f. omega (arith, h, f.few_slots))
      (or-within 11 (refuse_if (ltb max_statements m) 10 0) _ (if-within 11 (ltb max_statements m) 10 0 (omega arith))
      (if-first 11 (ltb max_slots (n + constants ss)) 11 0 _ (lt-ltb _ _ h) (omega arith)))
  query-first (over_selects h) =
      in-capacity 12 (λ f. omega (arith, h, f.few_selects))
      (or-within 12 (refuse_if (ltb max_statements m) 10 0) _ (if-within 12 (ltb max_statements m) 10 0 (omega arith))
      (or-within 12 (refuse_if (ltb max_slots (n + constants ss)) 11 0) _ (if-within 12 (ltb max_slots (n + constants ss)) 11 0 (omega arith))
      (if-first 12 (ltb max_selects q.select.count) 12 0 _ (lt-ltb _ _ h) (omega arith))))
  query-first (no_selects h) = in-capacity 13 (λ f. omega (arith, h, f.some_select)) (capacity-within 13 (omega arith) n m ss q.select.count)
  query-first (high_statement i h) =
      in-variables 14 (omega arith) (or-first 14 (statements_fault n ss 0) _ (λ e. none-high e i h.here) (first_within 14 (high n) 14 (omega arith) 0 ss))
  query-first (high_select z i h) =
      in-variables 14 (omega arith)
      (or-within 14 (statements_fault n ss 0) _ (first_within 14 (high n) 14 (omega arith) 0 ss)
      (or-first 14 (selects_fault n vs m) _ (λ e. select-low e i h.here) (first_within 14 _ 14 (omega arith) m vs)))
  query-first (unused v h) = query-within 15 (omega arith) q

  plan-explained : Explained (plan_refusal {q = q}) (plan_fault q)
  unfolding plan_fault
  plan-explained =
      or-explained plan_refusal (query_fault q) _ (⊎_elim inl (λ w. inr (of_query w.0, w.1)) query-explained)
      (λ _. ⊎_elim inl (λ w. inr (new_twice w.0.0 w.0.1, w.1)) (bound-explained ss))

  plan-sound : plan_fault q ≡ Ok tt → PlanReason q → ⊥
  unfolding plan_fault
  plan-sound fine (of_query r) = query-sound (or-fine (query_fault q) _ fine).0 r
  plan-sound fine (new_twice i h) = bound-sound ss (or-fine (query_fault q) _ fine).1 i h.here

  plan-first : (w : PlanReason q) → number_of (plan_fault q) ≤ number_of (plan_refusal w)
  unfolding plan_fault
  plan-first (of_query r) = or-first _ (query_fault q) _ (λ e. query-sound e r) (query-first r)
  plan-first (new_twice i h) = or-within 16 (query_fault q) _ (query-within 16 (omega arith) q) (bound-within 16 (omega arith) [] ss 0)

  either-answer : (p : Plan) (v : Verdict) → Explained (plan_refusal {q = q}) v →
      let answer = unless {A = Planned} v (λ w. record { verdict = w; plan = empty_plan }) (record { verdict = Ok tt; plan = p }) in
      (answer ≡ record { verdict = Ok tt; plan = p }) ⊎ ((w : PlanReason q) × (answer ≡ record { verdict = plan_refusal w; plan = empty_plan }))
  either-answer p (Ok tt) x = inl refl
  either-answer p (Err r) (inl e) = let z : ◌≡◌ {A = ℕ} 0 1 = cc in absurd (omega arith)
  either-answer p (Err r) (inr (w, e)) = inr (w, ap (λ (v : Verdict). record { verdict = v; plan = empty_plan }) e)

  pub planning-explained : PlanningExplained q
  unfolding plan_of
  planning-explained = record {
    answer = either-answer (plan_for q ss) (plan_fault q) plan-explained;
    refuses = λ w e. plan-sound (sym (either-verdict (plan_fault q) _) ∙ e) w;
    first = λ w. rw (either-verdict (plan_fault q) (plan_for q ss)) (plan-first w);
  }
