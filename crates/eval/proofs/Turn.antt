-- The turns of `increment`'s loop over plain lists: since the loop was entered nothing was handed out, and what is to come is the same.
use mathlib.Core.Path.{◌≡◌, refl, sym, ap, ◌∙◌}
use mathlib.Core.Logic.{⊎_elim}
use mathlib.Core.Bool.{Bool, true, false, false≢true}
use mathlib.Core.List.{List, ◌∷◌}
use Prim.Native.Nat.{ℕ, suc, ◌+◌, ◌*◌, ◌-◌, ◌<◌, ◌≤◌}
use native.Mathlib.Omega.{arith}
use native.Mathlib.Nat.{eq-or-lt_of_le}
use lib.ListN.{length, get_or, set, take, drop}
use lib.Seq.{get_or-set_same, get_or-set_other, drop-cons, take-take}
use Rattle.datom.specs.Fact.{words}
use Rattle.tables.specs.Rows.{count, row}
use Rattle.plan.specs.declared.Scan.{Scan}
use Rattle.plan.specs.Plan.{zero_scan}
use Rattle.visits.specs.Visits.{Tables, table_of}
use Rattle.visits.specs.Sound.{Sound, Agree}
use Rattle.visits.specs.Pending.{extend, iter_words, position, ending, current, current_slots, pending}
use Rattle.visits.proofs.Slots.{standing-stood, standing-agree}
use Rattle.visits.proofs.Pending.{current-same, pending-took, pending-dry, current-step, current-slots-length}
use Rattle.eval.specs.Steps.{filled_from, Ready, Stepped}

no_true : {A : Type 0} → false ≡ true → A
no_true e = absurd (false≢true e)

no_false : {A : Type 0} → true ≡ false → A
no_false e = absurd (false≢true (sym e))

-- at the loop's head
pub record Turn (ts : Tables) (ss : List Scan) (initial iters₀ slots₀ : List ℕ) (i : ℕ) (iters slots : List ℕ) : Type 0 where
  pub ready : Ready ts ss initial iters slots i
  pub above : (j : ℕ) → iter_words * suc i ≤ j → get_or iters j 0 ≡ get_or iters₀ j 0
  pub same : pending ts ss initial iters (suc i) ≡ pending ts ss initial iters₀ (suc i)
  pub iters_same : length iters ≡ length iters₀
  pub slots_same : length slots ≡ length slots₀

module _ {ts : Tables} {ss : List Scan} {initial iters₀ slots₀ : List ℕ} {i : ℕ} {iters slots : List ℕ}
    (u : Turn ts ss initial iters₀ slots₀ i iters slots) where
  abbrev pub s : Scan
  s = get_or ss i zero_scan

  abbrev pub at : ℕ
  at = iter_words * i

  -- the slots where scan i took its next row
  slots-took : Sound (length slots) ss → position iters i < ending iters i → (t slots' : List ℕ) → t ≡ table_of ts s.index
      → slots' ≡ filled_from (row t (position iters i)) s slots
      → Agree (drop (suc i) ss) slots' (current_slots ts ss initial (set iters at (position iters i + 1)) (suc i))
  slots-took ok l t slots' e f =
      let low = u.ready.low in
      let k = position iters i in
      let next = set iters at (k + 1) in
      let long : at < length iters = omega (arith, low, u.ready.iters_long) in
      let same : current next i ≡ current iters i = current-same next iters i (λ j g. get_or-set_other iters at j (k + 1) 0 (λ q. omega arith)) in
      let back : k + 1 - 1 ≡ k = omega arith in
      let agree : Agree (s ∷ drop (suc i) ss) slots (current_slots ts ss initial iters i) = rw (drop-cons ss i zero_scan low) at (u.ready.live i (omega arith) l) in
      rw (f, e, ← (standing-stood ts s (ok i low) k slots), current-step ts ss initial next i low, get_or-set_same iters at (k + 1) 0 long, back, same)
      (standing-agree ts s (ok i low) k refl (current-slots-length ts ss initial ok iters i (omega arith) ∙ sym u.ready.slots_long) agree)

  -- the rows that are left lie in the scan's table, and the first of them is the one that it takes
  module _ (t : List ℕ) (e : t ≡ table_of ts s.index) where
    pub left_in : words * ending iters i ≤ length t
    left_in = let h : ending iters i ≤ count t = rw e (u.ready.ends i (omega arith)) in omega arith

    module _ (l : position iters i < ending iters i) where
      abbrev left : List ℕ
      left = take (words * ending iters i - words * position iters i) (drop (words * position iters i) t)

      pub left-first : row left 0 ≡ row t (position iters i)
      unfolding row
      left-first = take-take words (words * ending iters i - words * position iters i) (drop (words * position iters i) t) (omega arith)

  -- a row is left
  pub turn-take : Sound (length slots) ss → position iters i < ending iters i → (t slots' : List ℕ) → t ≡ table_of ts s.index
      → slots' ≡ filled_from (row t (position iters i)) s slots → Stepped ts ss initial iters₀ i true (set iters at (position iters i + 1)) slots'
  turn-take ok l t slots' e f =
      let v = position iters i + 1 in
      record {
        above = λ j g. get_or-set_other iters at j v 0 (λ q. omega arith) ∙ u.above j g;
        ends = λ j g. rw (get_or-set_other iters at (iter_words * j + 1) v 0 (λ q. omega arith)) (u.ready.ends j g);
        yes_next = λ _. sym u.same ∙ pending-took ts ss initial iters i (omega (arith, u.ready.low, u.ready.iters_long)) l;
        yes_slots = λ _. slots-took ok l t slots' e f;
        no_more = λ q. no_false q;
        no_row = λ q. no_false q;
      }

  -- scan 0 has none left
  pub turn_end : ending iters i ≤ position iters i → i ≡ 0 → Stepped ts ss initial iters₀ i false iters slots
  unfolding pending extend
  turn_end l z = record {
    above = u.above;
    ends = u.ready.ends;
    yes_next = λ q. no_true q;
    yes_slots = λ q. no_true q;
    no_more = λ _. sym u.same ∙ pending-dry ts ss initial iters i l ∙ rw z refl;
    no_row = λ _ j g. let e : j ≡ i = omega arith in rw e l;
  }

  module _ (dry : ending iters i ≤ position iters i) (nonzero : i ≡ 0 → ⊥) (iters₁ slots₁ : List ℕ) where
    pub suc-pred : suc (i - 1) ≡ i
    suc-pred = omega arith

    pub ends-after : (more : Bool) → Stepped ts ss initial iters (i - 1) more iters₁ slots₁ → (j : ℕ) → j ≤ i
        → ending iters₁ j ≤ count (table_of ts (get_or ss j zero_scan).index)
    ends-after more v j l =
        ⊎_elim (λ (q : j ≡ i). rw (v.above (iter_words * j + 1) (omega arith)) (u.ready.ends j l)) (λ (q : j < i). v.ends j (omega arith)) (eq-or-lt_of_le l)

    -- it had none, so no scan has a row left
    none_after : Stepped ts ss initial iters (i - 1) false iters₁ slots₁ → (j : ℕ) → j ≤ i → ending iters₁ j ≤ position iters₁ j
    none_after v j l =
        ⊎_elim (λ (q : j ≡ i). rw (v.above (iter_words * j + 1) (omega arith), v.above (iter_words * j) (omega arith), q) dry)
        (λ (q : j < i). v.no_row refl j (omega arith)) (eq-or-lt_of_le l)

    -- and this one has no visit
    pub turn-no : Stepped ts ss initial iters (i - 1) false iters₁ slots₁ → Stepped ts ss initial iters₀ i false iters₁ slots₁
    unfolding extend
    turn-no v = record {
      above = λ j l. v.above j (omega arith) ∙ u.above j l;
      ends = ends-after false v;
      yes_next = λ q. no_true q;
      yes_slots = λ q. no_true q;
      no_more = λ _. sym u.same ∙ pending-dry ts ss initial iters i dry ∙ ap (extend ts (take i ss) s initial) (rw suc-pred at (v.no_more refl));
      no_row = λ _. none_after v;
    }
