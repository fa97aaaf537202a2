-- The loop turns again: the scan outside took a step, scan i's range was found anew, and the same is still to come.
use mathlib.Core.Path.{◌≡◌, refl, sym, ◌∙◌}
use mathlib.Core.Logic.{⊎_elim}
use mathlib.Core.Bool.{true}
use mathlib.Core.List.{List, ◌∷◌}
use Prim.Native.Nat.{ℕ, ◌+◌, ◌*◌, ◌-◌, ◌<◌, ◌≤◌}
use native.Mathlib.Omega.{arith}
use native.Mathlib.Nat.{eq-or-lt_of_le}
use lib.ListN.{length, get_or, set, drop, length-set}
use lib.Seq.{get_or-set_same, get_or-set_other, drop-cons}
use Rattle.tables.specs.Rows.{count}
use Rattle.plan.specs.declared.Scan.{Scan}
use Rattle.plan.specs.Plan.{zero_scan}
use Rattle.visits.specs.Visits.{Tables, table_of, visited}
use Rattle.visits.specs.Sound.{Sound, Agree}
use Rattle.visits.specs.Pending.{iter_words, position, ending, current, current_slots, pending}
use Rattle.visits.proofs.Slots.{visited-agree}
use Rattle.visits.proofs.Pending.{SameBelow, current-same, pending-same, pending-refilled, agree-below}
use Rattle.eval.specs.Steps.{Ascend, key_of, Found, Stepped}
use Rattle.eval.proofs.Turn.{Turn, suc-pred, ends-after}

module _ {ts : Tables} {ss : List Scan} {initial iters₀ slots₀ : List ℕ} {i : ℕ} {iters slots : List ℕ}
    (u : Turn ts ss initial iters₀ slots₀ i iters slots) (dry : ending iters i ≤ position iters i) (nonzero : i ≡ 0 → ⊥) (iters₁ slots₁ : List ℕ) where
  abbrev s : Scan
  s = get_or ss i zero_scan

  abbrev at : ℕ
  at = iter_words * i

  module _ (v : Stepped ts ss initial iters (i - 1) true iters₁ slots₁) (long : length iters₁ ≡ length iters) (wide : length slots₁ ≡ length slots)
      (t : List ℕ) (from to : ℕ) (f : Found t (key_of s slots₁) from to) where
    abbrev iters₂ : List ℕ
    iters₂ = set (set iters₁ at from) (at + 1) to

    -- it took one: what was to come of the scans outside, with that visit first
    next : pending ts ss initial iters i ≡ current iters₁ i ∷ pending ts ss initial iters₁ i
    next = rw (suc-pred u dry nonzero iters₁ slots₁) at (v.yes_next refl)

    agree : Agree (drop i ss) slots₁ (current_slots ts ss initial iters₁ i)
    agree = rw (suc-pred u dry nonzero iters₁ slots₁) at (v.yes_slots refl)

    other : (j : ℕ) → (j ≡ at → ⊥) → (j ≡ at + 1 → ⊥) → get_or iters₂ j 0 ≡ get_or iters₁ j 0
    other j a b = get_or-set_other (set iters₁ at from) (at + 1) j to 0 b ∙ get_or-set_other iters₁ at j from 0 a

    below : SameBelow i iters₂ iters₁
    below j l = other j (λ q. omega arith) (λ q. omega arith)

    position_is : position iters₂ i ≡ from
    position_is =
        get_or-set_other (set iters₁ at from) (at + 1) at to 0 (λ q. omega arith) ∙
        get_or-set_same iters₁ at from 0 (omega (arith, u.ready.low, u.ready.iters_long))

    ending-is : ending iters₂ i ≡ to
    ending-is = get_or-set_same (set iters₁ at from) (at + 1) to 0 (simp length-set (omega (arith, u.ready.low, u.ready.iters_long)))

    long₂ : length iters₂ ≡ length iters
    long₂ = length-set (set iters₁ at from) (at + 1) to ∙ length-set iters₁ at from ∙ long

    ends₂ : t ≡ table_of ts s.index → (j : ℕ) → j ≤ i → ending iters₂ j ≤ count (table_of ts (get_or ss j zero_scan).index)
    ends₂ e j l =
        ⊎_elim (λ (q : j ≡ i). rw (q, ending-is, ← e) f.within)
        (λ (q : j < i). rw (below (iter_words * j + 1) (omega arith)) (ends-after u dry nonzero iters₁ slots₁ true v j l)) (eq-or-lt_of_le l)

    -- so the loop turns, with the same still to come
    pub turn-again : Sound (length slots) ss → Ascend ts → t ≡ table_of ts s.index → Turn ts ss initial iters₀ slots₀ i iters₂ slots₁
    unfolding visited
    turn-again ok sorted e =
        let low = u.ready.low in
        let steady = drop-cons ss i zero_scan low in
        record {
          ready = record {
            low = low;
            iters_long = omega (arith, u.ready.iters_long, long₂);
            slots_long = wide ∙ u.ready.slots_long;
            ends = ends₂ e;
            live =
                λ j l _.
                rw (current-same iters₂ iters₁ j (λ k g. below k (omega arith)))
                (agree-below ts ss initial ok iters₁ slots₁ i (omega arith) agree j l);
          };
          above = λ j l. other j (λ q. omega arith) (λ q. omega arith) ∙ v.above j (omega arith) ∙ u.above j l;
          same =
              pending-refilled ts ss initial iters iters₁ iters₂ i dry below next
              (rw (position_is, ending-is) (sym (rw e at (f.rows (rw e (sorted s.index)))) ∙ visited-agree ts s (ok i low) (rw steady at agree)))
              ∙ u.same;
          iters_same = long₂ ∙ u.iters_same;
          slots_same = wide ∙ u.slots_same;
        }

    -- and one less of the visits outside
    pub turn-less : length (pending ts ss initial iters₂ i) < length (pending ts ss initial iters i)
    turn-less = rw (pending-same ts ss initial iters₂ iters₁ i below, next) (omega arith)
