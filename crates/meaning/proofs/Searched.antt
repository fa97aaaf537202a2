-- The search finds the first plan of least cost, or it refuses, for a reason than which none that is true has a lower number.
use mathlib.Core.Path.{◌≡◌, refl, sym, ap, ◌∙◌}
use mathlib.Core.Logic.{◌⊎◌, inl, inr, ⊎_elim}
use Prim.Native.Nat.{ℕ, ◌≤◌}
use native.Mathlib.Omega.{arith}
use borrow.Author.Tests.{ltb-true, ltb-false}
use lib.ListN.{length}
use lib.Dec.{ltb}
use Rattle.capacity.specs.Capacity.{max_statements, max_selects, max_searched}
use Rattle.refusal.specs.Verdict.{Refusal, Verdict}
use Rattle.std.specs.Prelude.{Ok, Err}
use Rattle.refusal.specs.Verdict.{refuse_if, number_of, or_else}
use Rattle.refusal.proofs.Fine.{refuse-fine, or-fine}
use Rattle.query.specs.declared.Query.{Query}
use Rattle.query_check.specs.Refusals.{query_fault}
use Rattle.query_check.specs.Clear.{Clear}
use Rattle.search.specs.Answered.{Found}
use Rattle.search.specs.Search.{not_found, search_of}
use Rattle.meaning.specs.Demand.{FirstOfLeast}
use Rattle.meaning.specs.Reasons.{SearchReason, of_query, over_searched, no_sound_order, search_refusal, SearchExplained}
use Rattle.meaning.proofs.Explained.{Explained, or-explained, if-explained}
use Rattle.planner.proofs.Numbers.{if-within, or-within, or-first, query-within}
use Rattle.meaning.proofs.Reasons.{query-explained, query-sound, query-first}
use Rattle.meaning.proofs.Demand.{search-demanded}

module _ (q : Query) (statements_sized : length q.where_statements.items ≡ max_statements) (selects_sized : length q.select.items ≡ max_selects) where
  -- 10 to 15 and 17, which come before any plan is weighed
  abbrev over : Verdict
  over = refuse_if (ltb max_searched q.where_statements.count) 17 0

  abbrev front : Verdict
  front = or_else (query_fault q) over

  front-explained : Explained (search_refusal {q = q}) front
  front-explained =
      or-explained search_refusal (query_fault q) _ (⊎_elim inl (λ w. inr (of_query w.0, w.1)) (query-explained q))
      (λ _. if-explained search_refusal _ 17 0 (λ t. (over_searched (ltb-true _ _ t), refl)))

  front-clear : front ≡ Ok tt → Clear q × (q.where_statements.count ≤ max_searched)
  front-clear e =
      let o = or-fine (query_fault q) _ e in
      (record { statements_sized = statements_sized; selects_sized = selects_sized; fine = o.0 }, ltb-false _ _ (refuse-fine _ 17 0 o.1))

  -- where one of them is given, it is the answer
  front-answers : (r : Refusal) → front ≡ Err r → search_of q ≡ not_found (Err r)
  unfolding search_of
  front-answers r e = rw e refl

  searched-answer : FirstOfLeast q (search_of q) ⊎ ((w : SearchReason q) × (search_of q ≡ not_found (search_refusal w)))
  searched-answer = go front refl front-explained
    where
      go : (v : Verdict) → front ≡ v → Explained (search_refusal {q = q}) v → FirstOfLeast q (search_of q) ⊎ ((w : SearchReason q) × (search_of q ≡ not_found (search_refusal w)))
      go (Ok tt) e x =
          let c = front-clear e in
          let d = search-demanded q c.0 c.1 in
          ⊎_elim inl (λ n. inr (no_sound_order (d.no_order.0 n), n)) d.answer
      go (Err r) e (inl z) = let d : ◌≡◌ {A = ℕ} 0 1 = cc in absurd (omega arith)
      go (Err r) e (inr (w, z)) = inr (w, front-answers r e ∙ ap not_found z)

  -- a search that is not refused is of a clear query
  fine-front : (search_of q).verdict ≡ Ok tt → front ≡ Ok tt
  fine-front h = go front refl
    where
      go : (v : Verdict) → front ≡ v → front ≡ Ok tt
      go (Ok tt) e = e
      go (Err r) e = e ∙ sym (ap (λ (f : Found). f.verdict) (front-answers r e)) ∙ h

  pub search-clear : (search_of q).verdict ≡ Ok tt → Clear q × (q.where_statements.count ≤ max_searched)
  search-clear h = front-clear (fine-front h)

  -- the number of the answer is no higher than that of any reason
  searched-first : (w : SearchReason q) → number_of (search_of q).verdict ≤ number_of (search_refusal w)
  searched-first w = go front refl w
    where
      under : (k : ℕ) (r : Refusal) → front ≡ Err r → number_of front ≤ k → number_of (search_of q).verdict ≤ k
      under k r e h = rw (front-answers r e) (rw e at h)

      go : (v : Verdict) → front ≡ v → (w : SearchReason q) → number_of (search_of q).verdict ≤ number_of (search_refusal w)
      go (Ok tt) e (of_query r) = absurd (query-sound q (front-clear e).0.fine r)
      go (Ok tt) e (over_searched h) = absurd (omega (arith, h, (front-clear e).1))
      go (Ok tt) e (no_sound_order n) = let c = front-clear e in rw ((search-demanded q c.0 c.1).no_order.1 n) (omega arith)
      go (Err r) e (of_query u) = under _ r e (or-first _ (query_fault q) over (λ z. query-sound q z u) (query-first q u))
      go (Err r) e (over_searched h) = under 17 r e (or-within 17 (query_fault q) over (query-within 17 (omega arith) q) (if-within 17 (ltb max_searched q.where_statements.count) 17 0 (omega arith)))
      go (Err r) e (no_sound_order n) = under 18 r e (or-within 18 (query_fault q) over (query-within 18 (omega arith) q) (if-within 18 (ltb max_searched q.where_statements.count) 17 0 (omega arith)))

  searched-refuses : SearchReason q → (search_of q).verdict ≡ Ok tt → ⊥
  searched-refuses (of_query r) h = query-sound q (search-clear h).0.fine r
  searched-refuses (over_searched g) h = let c = search-clear h in omega (arith, c.1)
  searched-refuses (no_sound_order n) h =
      let c = search-clear h in
      let v : number_of (search_of q).verdict ≡ 18 = ap (λ (f : Found). number_of f.verdict) ((search-demanded q c.0 c.1).no_order.1 n) in
      omega (arith, v, ap number_of h)

  pub search-explained : SearchExplained q
  search-explained = record { answer = searched-answer; refuses = searched-refuses; first = searched-first }
