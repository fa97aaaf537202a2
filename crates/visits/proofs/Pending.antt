-- The visits that are still to come, read off the state of the iterators: a position and an end per scan. It is the grown list of visits,
-- cut where the iterators stand, and a step of scan i takes its first visit away.
use mathlib.Core.Path.{◌≡◌, refl, sym, ap, ◌∙◌}
use mathlib.Core.Logic.{⊎_elim}
use mathlib.Core.List.{List, [], ◌∷◌}
use Prim.Native.Nat.{ℕ, zero, suc, ◌+◌, ◌*◌, ◌-◌, ◌≤◌, ◌<◌}
use native.Mathlib.Omega.{arith}
use native.Mathlib.Nat.{eq-or-lt_of_le, le_of_suc-le-suc}
use lib.ListN.{length, get_or, set, take, drop, length-append}
use lib.Seq.{get_or-set_same, get_or-set_other, take-suc, drop-cons, length-take-le}
use Rattle.lists.specs.Span.{span}
use Rattle.tables.proofs.Table.{span-step, span-end}
use Rattle.plan.specs.declared.Scan.{Scan}
use Rattle.plan.specs.Plan.{zero_scan}
use Rattle.visits.specs.Visits.{Tables, visited, standing, visits, slots_at}
use Rattle.visits.specs.Sound.{Sound, Agree}
use Rattle.visits.specs.Pending.{extend, iter_words, position, ending, current, current_slots, pending}
use Rattle.visits.proofs.Nested.{visits-snoc, slots_at-snoc}
use Rattle.visits.proofs.Slots.{standing-back, standing-length}

-- two states of the iterators are the same below scan i
abbrev pub SameBelow : ℕ → List ℕ → List ℕ → Type 0
SameBelow i p q = (j : ℕ) → j < iter_words * i → get_or p j 0 ≡ get_or q j 0

current-length : (p : List ℕ) (i : ℕ) → length (current p i) ≡ i
unfolding current
current-length p zero = refl
current-length p (suc i) = length-append (current p i) _ ∙ rw (current-length p i) (omega arith)

-- where the first i scans stand is settled by their own iterators
pub current-same : (p q : List ℕ) (i : ℕ) → SameBelow i p q → current p i ≡ current q i
unfolding current
current-same p q zero h = refl
current-same p q (suc i) h = rw (h (iter_words * i) (omega arith), current-same p q i (λ j l. h j (omega arith)))

module _ (ts : Tables) (ss : List Scan) (initial : List ℕ) where
  -- and so is what is to come of them
  pub pending-same : (p q : List ℕ) (i : ℕ) → SameBelow i p q → pending ts ss initial p i ≡ pending ts ss initial q i
  unfolding pending
  pending-same p q zero h = refl
  pending-same p q (suc i) h =
      rw (
        h (iter_words * i) (omega arith),
        h (iter_words * i + 1) (omega arith),
        current-same p q i (λ j l. h j (omega arith)),
        pending-same p q i (λ j l. h j (omega arith)),
      )

  -- scan i has a row left: the next visit stands there
  pub pending-took : (p : List ℕ) (i : ℕ) → iter_words * i < length p → position p i < ending p i →
      let q = set p (iter_words * i) (position p i + 1) in pending ts ss initial p (suc i) ≡ current q (suc i) ∷ pending ts ss initial q (suc i)
  unfolding pending current
  pending-took p i l m =
      let v = position p i + 1 in
      let below : SameBelow i (set p (iter_words * i) v) p = λ j g. get_or-set_other p (iter_words * i) j v 0 (λ e. omega arith) in
      let back : position p i + 1 - 1 ≡ position p i = omega arith in
      rw (
        get_or-set_same p (iter_words * i) v 0 l,
        get_or-set_other p (iter_words * i) (iter_words * i + 1) v 0 (λ e. omega arith),
        current-same (set p (iter_words * i) v) p i below,
        pending-same (set p (iter_words * i) v) p i below,
        span-step (ending p i) (position p i) m,
        back,
      )

  -- it has none left: what is to come is what comes of the visits outside it
  pub pending-dry : (p : List ℕ) (i : ℕ) → ending p i ≤ position p i
      → pending ts ss initial p (suc i) ≡ extend ts (take i ss) (get_or ss i zero_scan) initial (pending ts ss initial p i)
  unfolding pending
  pending-dry p i l = rw (span-end (ending p i) (position p i) l)

  -- the scans outside took a step, and scan i's range was found anew: the same is to come
  pub pending-refilled : (p q r : List ℕ) (i : ℕ) → ending p i ≤ position p i → SameBelow i r q
      → pending ts ss initial p i ≡ current q i ∷ pending ts ss initial q i
      → span (position r i) (ending r i - position r i) ≡ visited ts (get_or ss i zero_scan) (current_slots ts ss initial q i)
      → pending ts ss initial r (suc i) ≡ pending ts ss initial p (suc i)
  unfolding pending extend
  pending-refilled p q r i dry same took found =
      rw (span-end (ending p i) (position p i) dry, took, current-same r q i same, pending-same r q i same, found)

  -- at the start scan 0's range is found and every other is empty: what is to come is every visit
  pub pending-started : (p : List ℕ) → span (position p 0) (ending p 0 - position p 0) ≡ visited ts (get_or ss 0 zero_scan) initial
      → ((j : ℕ) → 1 ≤ j → j < length ss → ending p j ≤ position p j)
      → (i : ℕ) → i < length ss → pending ts ss initial p (suc i) ≡ visits ts (take (suc i) ss) initial
  unfolding pending extend visits current slots_at
  pending-started p found rest zero l = rw (take-suc ss 0 zero_scan l, visits-snoc ts [] (get_or ss 0 zero_scan) initial, found)
  pending-started p found rest (suc i) l =
      pending-dry p (suc i) (rest (suc i) (omega arith) l) ∙
      rw (take-suc ss (suc i) zero_scan l, visits-snoc ts (take (suc i) ss) (get_or ss (suc i) zero_scan) initial)
      (ap (extend ts (take (suc i) ss) (get_or ss (suc i) zero_scan) initial) (pending-started p found rest i (omega arith)))

  -- the slots where one scan more stands
  pub current-step : (p : List ℕ) (i : ℕ) → i < length ss
      → current_slots ts ss initial p (suc i) ≡ standing ts (get_or ss i zero_scan) (current_slots ts ss initial p i) (position p i - 1)
  unfolding current
  current-step p i l =
      rw (take-suc ss i zero_scan l)
      (slots_at-snoc ts (take i ss) (get_or ss i zero_scan) initial (current p i) (position p i - 1)
      (current-length p i ∙ sym (length-take-le i ss (omega arith))))

  module _ {count : ℕ} (ok : Sound count ss) where
    pub current-slots-length : (p : List ℕ) (i : ℕ) → i ≤ length ss → length (current_slots ts ss initial p i) ≡ length initial
    unfolding slots_at current
    current-slots-length p zero l = refl
    current-slots-length p (suc i) l =
        ap length (current-step p i l) ∙ standing-length ts (get_or ss i zero_scan) (ok i l) _ _ ∙ current-slots-length p i (omega arith)

    -- slots that agree where the first i scans stand agree where fewer do
    pub agree-below : (p slots : List ℕ) (i : ℕ) → i ≤ length ss → Agree (drop i ss) slots (current_slots ts ss initial p i) → (j : ℕ) → j ≤ i
        → Agree (drop j ss) slots (current_slots ts ss initial p j)
    agree-below p slots zero l h j g = let z : j ≡ zero = omega arith in rw z h
    agree-below p slots (suc i) l h j g =
        let s = get_or ss i zero_scan in
        ⊎_elim (λ (q : j ≡ suc i). rw q h)
        (λ (q : j < suc i). agree-below p slots i (omega arith)
        (rw (drop-cons ss i zero_scan l) (standing-back ts s (ok i l) (position p i - 1) (rw (current-step p i l) at h))) j (le_of_suc-le-suc q))
        (eq-or-lt_of_le g)
