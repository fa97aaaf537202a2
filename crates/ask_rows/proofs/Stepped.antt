-- Whether a window is the last, case by case, and how the next begins.
use mathlib.Core.Path.{◌≡◌, refl, sym, ap, ◌∙◌}
use mathlib.Core.Bool.{Bool, true, false, not, ◌||◌, false≢true}
use Prim.Native.Nat.{ℕ, ◌+◌, ◌-◌, ◌^◌, ◌≤◌, ◌<◌}
use native.Mathlib.Omega.{arith}
use borrow.Author.Tests.{not-false, leb-false, eqb-false, ltb-false}
use lib.Dec.{leb, eqb}
use Rattle.text_pieces.specs.Written.{largest}
use Rattle.ask_rows.specs.declared.Step.{Step}
use Rattle.ask_rows.specs.Windows.{is_last, step_of}

neither : (p q : Bool) → p || q ≡ false → (p ≡ false) × (q ≡ false)
neither true q e = (e, cc)
neither false q e = (refl, e)

-- what holds where another window follows
pub record Goes (more : Bool) (count from left : ℕ) : Type 0 where
  pub goes_on : more ≡ true
  pub some_left : count < left
  pub some_shown : 0 < count
  pub has_number : count ≤ largest - from

module _ (more : Bool) (count from left : ℕ) where
  pub goes : is_last more count from left ≡ false → Goes more count from left
  unfolding is_last
  goes e =
      let a = neither (not more) _ e in
      let b = neither (leb left count) _ a.1 in
      let d = neither (eqb count 0) _ b.1 in
      let n = eqb-false count 0 d.0 in
      record { goes_on = not-false more a.0; some_left = leb-false left count b.0; some_shown = omega (arith, n); has_number = ltb-false (largest - from) count d.1 }

  pub step-last : is_last more count from left ≡ true → ◌≡◌ {A = Step} (record { last = true; from = from; left = left }) (step_of more count from left)
  unfolding step_of
  step-last e = rw e

  pub step-on : is_last more count from left ≡ false → ◌≡◌ {A = Step} (record { last = false; from = from + count; left = left - count }) (step_of more count from left)
  unfolding step_of
  step-on e = rw e

  pub step_falls : (s : Step) → s ≡ step_of more count from left → s.last ≡ false → s.left < left
  step_falls s e f = by_cases (is_last more count from left) refl
    where
      by_cases : (t : Bool) → is_last more count from left ≡ t → s.left < left
      by_cases true g = let h : true ≡ s.last = ap (λ (x : Step). x.last) (step-last g ∙ sym e) in absurd (false≢true (sym f ∙ sym h))
      by_cases false g =
          let on = goes g in
          let h : left - count ≡ s.left = ap (λ (x : Step). x.left) (step-on g ∙ sym e) in
          omega (arith, on.some_shown, on.some_left)

  -- where each row that is left to show has a number, so has each after the window
  pub step-numbered : left ≤ 2 ^ 64 - from → (step_of more count from left).left ≤ 2 ^ 64 - (step_of more count from left).from
  step-numbered numbered = by_cases (is_last more count from left) refl
    where
      by_cases : (t : Bool) → is_last more count from left ≡ t → (step_of more count from left).left ≤ 2 ^ 64 - (step_of more count from left).from
      by_cases true g = rw (← (step-last g)) numbered
      by_cases false g = rw (← (step-on g)) (omega arith)
