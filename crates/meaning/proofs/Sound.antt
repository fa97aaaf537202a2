-- 16, and what it is for an order to be sound: no statement has one variable as both entity and value that no earlier statement names.
use mathlib.Core.Path.{◌≡◌, refl, sym, subst, ◌∙◌}
use mathlib.Core.Logic.{inl, ⊎_elim, ◌↔◌}
use Prim.Native.Nat.{ℕ, zero, suc, ◌+◌, ◌<◌}
use native.Mathlib.Numerals.{add-one}
use native.Mathlib.Nat.{zero-add, not-suc-le-zero}
use native.Mathlib.Omega.{arith}
use mathlib.Core.List.{List, []}
use mathlib.Core.Bool.{true, not, false≢true}
use borrow.Author.Tests.{not-true}
use lib.ListN.{length, get_or, take, drop, drop_of_length-le}
use lib.Seq.{drop-cons, take-suc}
use Rattle.refusal.specs.Verdict.{Verdict}
use Rattle.std.specs.Prelude.{Ok}
use Rattle.refusal.specs.Verdict.{refused, refuse_if, Lowest}
use Rattle.refusal.proofs.Fine.{refuse-fine}
use Rattle.query.specs.declared.Statement.{Statement}
use Rattle.query.specs.Query.{is_variable, named, zero_statement}
use Rattle.planner.specs.Refusals.{binds_twice, bound_twice_fault}
use Rattle.planned.proofs.Places.{bound-once}
use Rattle.search.specs.Search.{is_sound}
use Rattle.search.proofs.Answer.{sound-fine}
use Rattle.tables.proofs.Order.{both}
use Rattle.meaning.specs.Demand.{NewTwice}
use Rattle.meaning.proofs.Explained.{Explained, or-explained, if-explained, below_next}

-- 16 at the lowest statement that binds one variable twice
abbrev bound_refusal : (ss : List Statement) → (i : ℕ) × Lowest (NewTwice ss) i → Verdict
bound_refusal ss w = refused 16 w.0

module _ (ss : List Statement) where
  from-explained : (left i : ℕ) → i + left ≡ length ss → ((j : ℕ) → j < i → NewTwice ss j → ⊥)
      → Explained (bound_refusal ss) (bound_twice_fault (take i ss) (drop i ss) i)
  unfolding bound_twice_fault
  from-explained zero i e h = rw (drop_of_length-le ss {i = i} (omega arith)) (inl refl)
  from-explained (suc left) i e h =
      let low : i < length ss = omega arith in
      let s = get_or ss i zero_statement in
      let t = take i ss in
      rw (drop-cons ss i zero_statement low)
      (or-explained (bound_refusal ss) (refuse_if (binds_twice t s) 16 i) _
      (if-explained (bound_refusal ss) (binds_twice t s) 16 i
      (λ b.
      let w = both (is_variable s.value s.entity.0) (not (named t s.entity.0)) b in
      ((i, record { here = (low, w.0, not-true _ w.1); none_lower = h }), refl)))
      (λ f.
      rw (take-suc ss i zero_statement low) at
      (subst (λ (k : ℕ). Explained (bound_refusal ss) (bound_twice_fault (take k ss) (drop k ss) (i + 1))) (add-one i)
      (from-explained left (i + 1) (omega arith)
      (below_next (NewTwice ss) i h
      (λ w. false≢true (sym (refuse-fine (binds_twice t s) 16 i f) ∙ rw (w.1, w.2) refl)))))))

  pub bound-explained : Explained (bound_refusal ss) (bound_twice_fault [] ss 0)
  bound-explained = from-explained (length ss) 0 (zero-add _) (λ j l. absurd (not-suc-le-zero l))

  pub bound-sound : bound_twice_fault [] ss 0 ≡ Ok tt → (i : ℕ) → NewTwice ss i → ⊥
  bound-sound fine i w = false≢true (sym (bound-once [] ss 0 fine i zero_statement w.0) ∙ rw (w.1, w.2) refl)

  pub without-fine : ((i : ℕ) → NewTwice ss i → ⊥) → bound_twice_fault [] ss 0 ≡ Ok tt
  without-fine n = ⊎_elim (λ e. e) (λ w. absurd (n w.0.0 w.0.1.here)) bound-explained

  -- `is_sound`, which the search asks, is what 01 says of a sound order
  pub sound-without : (is_sound ss ≡ true) ↔ ((i : ℕ) → NewTwice ss i → ⊥)
  sound-without = (λ e. bound-sound (sound-fine (bound_twice_fault [] ss 0) e), λ n. rw (without-fine n) refl)
