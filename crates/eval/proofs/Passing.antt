-- The turns of `skip`'s loop: what remains is what remained at first, without the visits that were passed over.
use mathlib.Core.Path.{◌≡◌, refl, sym, ap, ◌∙◌}
use mathlib.Core.Bool.{true, false}
use mathlib.Core.List.{List, [], ◌∷◌}
use Prim.Native.Nat.{ℕ, ◌+◌, ◌-◌, ◌<◌, ◌≤◌}
use native.Mathlib.Omega.{arith}
use lib.ListN.{length, drop}
use lib.Seq.{drop-drop, drop-nil}
use Rattle.plan.specs.declared.Scan.{Scan}
use Rattle.visits.specs.Visits.{Tables}
use Rattle.eval.specs.Steps.{Ready}
use Rattle.eval.specs.Next.{innermost, remaining, Advanced, Skipped}

module _ {A : Type 0} (l : List A) where
  -- past one element more
  pub drop-next : (i : ℕ) (w : A) (ws : List A) → drop i l ≡ w ∷ ws → drop (i + 1) l ≡ ws
  drop-next i w ws e = sym (drop-drop 1 i l) ∙ ap (drop 1) e

  -- where nothing is left nothing is left further on
  pub drop-none : (i j : ℕ) → i ≤ j → drop i l ≡ [] → drop j l ≡ []
  drop-none i j g e =
      let q : j ≡ i + (j - i) = omega arith in
      ap (λ (z : ℕ). drop z l) q ∙ sym (drop-drop (j - i) i l) ∙ ap (drop (j - i)) e ∙ drop-nil (j - i)

-- at the loop's head
pub record Skipping (ts : Tables) (ss : List Scan) (initial iters₀ slots₀ : List ℕ) (count : ℕ) (iters slots : List ℕ) (left : ℕ) : Type 0 where
  pub ready : Ready ts ss initial iters slots (innermost ss)
  pub few : left ≤ count
  pub rest : remaining ts ss initial iters ≡ drop (count - left) (remaining ts ss initial iters₀)
  pub iters_same : length iters ≡ length iters₀
  pub slots_same : length slots ≡ length slots₀

pub skip-start : (ts : Tables) (ss : List Scan) (initial iters slots : List ℕ) (count : ℕ) → Ready ts ss initial iters slots (innermost ss)
    → Skipping ts ss initial iters slots count iters slots count
skip-start ts ss initial iters slots count r = record {
  ready = r;
  few = omega arith;
  rest = let q : count - count ≡ 0 = omega arith in rw q;
  iters_same = refl;
  slots_same = refl;
}

module _ {ts : Tables} {ss : List Scan} {initial iters₀ slots₀ : List ℕ} {count : ℕ} {iters slots : List ℕ} {left : ℕ}
    (u : Skipping ts ss initial iters₀ slots₀ count iters slots left) where
  -- there is no next visit
  pub skip-no : (iters' slots' : List ℕ) → Advanced ts ss initial iters false iters' slots' → Skipped ts ss initial iters₀ count false iters' slots'
  skip-no iters' slots' v =
      let none = drop-none (remaining ts ss initial iters₀) (count - left) count (omega arith) (sym u.rest ∙ v.no_more refl) in
      record { rest = v.no_rest refl ∙ sym none; ready = v.ready; no_more = λ _. none }

  -- one more is passed over
  pub skip-again : (iters' slots' : List ℕ) → Advanced ts ss initial iters true iters' slots' → length iters' ≡ length iters → length slots' ≡ length slots
      → 0 < left → Skipping ts ss initial iters₀ slots₀ count iters' slots' (left - 1)
  skip-again iters' slots' v long wide l = record {
    ready = v.ready;
    few = omega (arith, u.few);
    rest =
        let q : count - (left - 1) ≡ count - left + 1 = omega (arith, u.few) in
        rw q (sym (drop-next (remaining ts ss initial iters₀) (count - left) _ _ (sym u.rest ∙ v.next refl)));
    iters_same = long ∙ u.iters_same;
    slots_same = wide ∙ u.slots_same;
  }
