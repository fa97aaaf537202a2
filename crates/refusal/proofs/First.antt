-- Laws of the first refusal of items: when it is fine, at which place it is given, and when two lists have the same.
use mathlib.Core.Path.{◌≡◌, refl, sym, ◌∙◌}
use mathlib.Core.Logic.{◌⊎◌, inl, inr, ⊎_elim, ◌↔◌}
use Prim.Native.Nat.{ℕ, suc, ◌+◌, ◌≤◌, ◌<◌}
use native.Mathlib.Nat.{add-zero, not-suc-le-zero, le_of_suc-le-suc}
use native.Mathlib.Omega.{arith}
use mathlib.Core.List.{List, [], ◌∷◌}
use mathlib.Core.Bool.{Bool, true, false, false≢true}
use lib.ListN.{length, get_or, take, drop}
use Rattle.lists.specs.Span.{span}
use Rattle.lists.proofs.Walk.{each, walk_step, walk_end}
use Rattle.lists.proofs.Span.{length-span, get_or-span}
use Rattle.refusal.specs.Verdict.{Refusal, Verdict}
use Rattle.std.specs.Prelude.{Ok, Err}
use Rattle.refusal.specs.Verdict.{refused, refuse_if, first_fault, refuse_first, Lowest}
use Rattle.refusal.proofs.Fine.{refuse-fine, or-fine}

module _ {A : Type 0} (fault : ℕ → A → Verdict) where
  -- it is fine exactly if each item is
  pub first_fine : (d : A) (p : ℕ) (xs : List A) → first_fault fault p xs ≡ Ok tt ↔ ((j : ℕ) → j < length xs → fault (p + j) (get_or xs j d) ≡ Ok tt)
  unfolding first_fault
  first_fine d p [] = (λ e j h. absurd (not-suc-le-zero h), λ f. refl)
  first_fine d p (x ∷ xs) =
      let rest = first_fine d (p + 1) xs in
      let on : (j : ℕ) → p + suc j ≡ p + 1 + j = λ j. omega arith in (
        λ e.
            let b = or-fine (fault p x) _ e in
            each (λ j. fault (p + j) (get_or (x ∷ xs) j d) ≡ Ok tt) (length xs) (rw add-zero b.0) (λ j h. rw on (rest.0 b.1 j h)),
        λ f. simp (rw add-zero at (f 0 (omega arith))) (rest.1 (λ j h. rw on at (f (suc j) (omega arith)))),
      )

-- a loop over the first k items of an array, the first at place p, has found nothing to refuse before item i, which is at place q
pub record Walked {A : Type 0} (fault : ℕ → A → Verdict) (l : List A) (k p q i : ℕ) : Type 0 where
  pub within : i ≤ k
  pub fits : k ≤ length l
  pub rest : first_fault fault p (take k l) ≡ first_fault fault q (drop i (take k l))

module _ {A : Type 0} {fault : ℕ → A → Verdict} {l : List A} {k p q i : ℕ} (w : Walked fault l k p q i) where
  -- item i is fine
  pub walked_on : (d : A) → i < k → fault q (get_or l i d) ≡ Ok tt → Walked fault l k p (q + 1) (i + 1)
  unfolding first_fault
  walked_on d h e = record { within = omega arith; fits = w.fits; rest = w.rest ∙ rw (walk_step l k w.fits d i h, e) refl }

  -- item i is refused
  pub walked-found : (d : A) {r : Refusal} → i < k → fault q (get_or l i d) ≡ Err r → first_fault fault p (take k l) ≡ Err r
  unfolding first_fault
  walked-found d h e = w.rest ∙ rw (walk_step l k w.fits d i h, e) refl

  -- none is left
  pub walked-done : k ≤ i → first_fault fault p (take k l) ≡ Ok tt
  unfolding first_fault
  walked-done h = w.rest ∙ rw (walk_end l k w.fits i h) refl

-- item i fails a test
abbrev pub Fails : {A : Type 0} → (A → Bool) → A → List A → ℕ → Type 0
Fails test d xs i = (i < length xs) × (test (get_or xs i d) ≡ true)

module _ {A : Type 0} (test : A → Bool) (n : ℕ) (d : A) where
  -- fine exactly if each passes
  pub each-passes : (p : ℕ) (xs : List A) → refuse_first test n p xs ≡ Ok tt ↔ ((j : ℕ) → j < length xs → test (get_or xs j d) ≡ false)
  unfolding refuse_first
  each-passes p xs =
      let fine = first_fine (λ i x. refuse_if (test x) n i) d p xs in
      (λ e j h. refuse-fine _ _ _ (fine.0 e j h), λ f. fine.1 (λ j h. rw (f j h)))

  -- two lists that fail at the same places are refused alike
  pub first-agree : {B : Type 0} (other : B → Bool) (d' : B) (p : ℕ) (xs : List A) (ys : List B) → length xs ≡ length ys
      → ((j : ℕ) → j < length xs → test (get_or xs j d) ≡ other (get_or ys j d')) → refuse_first test n p xs ≡ refuse_first other n p ys
  unfolding refuse_first first_fault
  first-agree other d' p [] [] e f = refl
  first-agree other d' p [] (y ∷ ys) e f = absurd (let z : 0 ≡ suc (length ys) = e in omega arith)
  first-agree other d' p (x ∷ xs) [] e f = absurd (let z : suc (length xs) ≡ 0 = e in omega arith)
  first-agree other d' p (x ∷ xs) (y ∷ ys) e f =
      rw (f 0 (omega arith), first-agree other d' (p + 1) xs ys (omega (arith, e)) (λ j h. f (suc j) (omega arith)))

  -- where P says of each place that its item fails: fine, and so of none, or refused at the lowest place of which it is so
  abbrev pub Judged : (ℕ → Type 0) → ℕ → List A → Type 0
  Judged P p xs = ((refuse_first test n p xs ≡ Ok tt) × ((j : ℕ) → P j → ⊥)) ⊎ ((i : ℕ) × Lowest P i × (refuse_first test n p xs ≡ refused n (p + i)))

  pub refused-lowest : (P : ℕ → Type 0) (p : ℕ) (xs : List A) → ((j : ℕ) → P j ↔ Fails test d xs j) → Judged P p xs
  unfolding refuse_first first_fault
  refused-lowest P p [] fails = inl (refl, λ j w. not-suc-le-zero ((fails j).0 w).0)
  refused-lowest P p (x ∷ xs) fails =
      go (test x) refl
      (refused-lowest (λ j. P (suc j)) (p + 1) xs
      (λ j.
      let f = fails (suc j) in
      (λ w. (le_of_suc-le-suc (f.0 w).0, (f.0 w).1), λ w. f.1 (omega arith, w.1))))
    where
      go : (t : Bool) → test x ≡ t → Judged (λ j. P (suc j)) (p + 1) xs → Judged P p (x ∷ xs)
      go true e rest = inr (0, record { here = (fails 0).1 (omega arith, e); none_lower = λ j l. absurd (not-suc-le-zero l) }, rw (e, add-zero) refl)
      go false e rest =
          let first : P 0 → ⊥ = λ w. false≢true (sym e ∙ ((fails 0).0 w).1) in
          let on : (i : ℕ) → p + suc i ≡ p + 1 + i = λ i. omega arith in
          ⊎_elim
          (λ w. inl (rw e w.0, λ j f. each (λ i. P i → ⊥) (length xs) first (λ i l. w.1 i) j ((fails j).0 f).0 f))
          (λ w. inr (suc w.0, record { here = w.1.here; none_lower = each (λ i. P i → ⊥) w.0 first w.1.none_lower }, rw (e, on w.0) w.2))
          rest

-- numbers one after the other: fine exactly if each passes
pub each_number : (test : ℕ → Bool) (n p a m : ℕ) → refuse_first test n p (span a m) ≡ Ok tt ↔ ((j : ℕ) → j < m → test (a + j) ≡ false)
each_number test n p a m =
    let passes = each-passes test n 0 p (span a m) in
    let long = length-span a m in (
      λ e j h. rw (get_or-span a m j h) at (passes.0 e j (omega arith)),
      λ f. passes.1 (λ j h. let l : j < m = omega arith in rw (get_or-span a m j l) (f j l)),
    )
