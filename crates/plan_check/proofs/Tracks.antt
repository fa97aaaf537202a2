-- The record tracks `is_set`: its entry for a slot says whether the slot is set after the scans so far; so it decides as the definitions do.
use mathlib.Core.Path.{◌≡◌, refl, sym, ◌∙◌}
use Prim.Native.Nat.{ℕ, ◌+◌, ◌≤◌, ◌<◌}
use mathlib.Core.List.{List, [], ◌∷◌, ◌++◌, append-nil}
use mathlib.Core.Bool.{Bool, true, false, ◌||◌, or-false, or-true, or_assoc}
use native.Mathlib.Nat.{zero-add}
use native.Mathlib.Omega.{arith}
use borrow.Author.Tests.{leb-false, eqb-true, eqb-false}
use lib.ListN.{length, get_or, set, take, length-set, length-map, get_or-map}
use lib.Seq.{take_all, get_or-take, length-take-le, get_or-set_same, get_or-set_other, append_snoc}
use lib.Dec.{leb, eqb}
use Rattle.lists.specs.Span.{span}
use Rattle.lists.proofs.Span.{length-span, get_or-span}
use Rattle.refusal.specs.Verdict.{or_else}
use Rattle.refusal.proofs.Fine.{or-else-assoc}
use Rattle.refusal.proofs.First.{first-agree}
use Rattle.plan.specs.declared.Slot.{Slot}
use Rattle.plan.specs.declared.Scan.{Scan}
use Rattle.plan.specs.declared.SlotRecord.{SlotRecord}
use Rattle.plan.specs.declared.Access.{Access}
use Rattle.plan.specs.declared.Access.TheVariants.{Reads, Writes}
use Rattle.plan.specs.Plan.{is_constant, variable_slot, first_access, second_access, first_slot, second_slot}
use Rattle.plan_check.specs.declared.Initialization.{Initialization}
use Rattle.plan_check.specs.declared.Initialization.TheVariants.{Unset, Set}
use Rattle.plan_check.specs.Check.{writes_to, first_writes, second_writes, is_written, is_set, slot_fault, scan_fault, scans_fault, unset_fault, initialization_fault}
use Rattle.plan_check.specs.Record.{state_of, is_set_state, constants_record, access_record, scan_record, slot_fault_in, scan_fault_in, unset_fault_in, scans_fault_in}

-- a record's first n entries say what f says
record Tracks (n : ℕ) (rec : List Initialization) (f : ℕ → Bool) : Type 0 where
  fits : n ≤ length rec
  says : (k : ℕ) → k < n → get_or rec k Unset ≡ state_of (f k)

-- an entry says what it was made of
said : (b : Bool) → is_set_state (state_of b) ≡ b
said false = refl
said true = refl

-- before the first scan the constants are set
constants-track : (slots : List SlotRecord) (rec : List Initialization) → length slots ≤ length rec
    → take (length slots) rec ≡ constants_record slots → Tracks (length slots) rec (is_set slots [])
unfolding is_set is_written
constants-track slots rec l e =
    let state : SlotRecord → Initialization = λ s. state_of (is_constant s.definition) in
    record {
      fits = l;
      says = λ k h. simp or-false (sym (get_or-take (length slots) rec k Unset h) ∙ rw e (get_or-map state slots k variable_slot));
    }

-- after an access a slot is set if it was, or if the access writes it
access-tracks : {n : ℕ} {rec : List Initialization} {f : ℕ → Bool} → Tracks n rec f → (a : Access) (x : Slot)
    → Tracks n (access_record rec a x) (λ k. f k || writes_to a x.0 k)
access-tracks {n} {rec} {f} t Reads x = record { fits = t.fits; says = λ k h. rw (or-false (f k)) (t.says k h) }
access-tracks {n} {rec} {f} t Writes x = record { fits = simp length-set t.fits; says = λ k h. go k h (eqb x.0 k) refl }
  where
    go : (k : ℕ) → k < n → (b : Bool) → eqb x.0 k ≡ b → get_or (set rec x.0 Set) k Unset ≡ state_of (f k || eqb x.0 k)
    go k h true e = let q : x.0 ≡ k = eqb-true _ _ e in rw (e, or-true (f k), q) (get_or-set_same rec k Set Unset (omega arith))
    go k h false e = rw (e, or-false (f k), get_or-set_other rec x.0 k Set Unset (λ q. eqb-false _ _ e (sym q))) (t.says k h)

-- one slot's answer, which looks at the record only below n
slot-tracks : {n : ℕ} {rec : List Initialization} {f : ℕ → Bool} → Tracks n rec f → (a : Access) (x : Slot) (i : ℕ)
    → slot_fault_in n rec a x i ≡ slot_fault n a x (f x.0) i
unfolding slot_fault_in slot_fault
slot-tracks {n} {rec} {f} t a x i = go (leb n x.0) refl
  where
    go : (b : Bool) → leb n x.0 ≡ b → slot_fault_in n rec a x i ≡ slot_fault n a x (f x.0) i
    go true e = simp e
    go false e = simp (e, t.says x.0 (leb-false _ _ e), said)

-- what one scan more sets
written-more : (before : List Scan) (s : Scan) (k : ℕ)
    → is_written (before ++ (s ∷ [])) k ≡ (is_written before k || first_writes s k || second_writes s k)
unfolding is_written
written-more [] s k = or-false (first_writes s k || second_writes s k)
written-more (b ∷ bs) s k = rw (written-more bs s k) (simp or_assoc)

set_more : (slots : List SlotRecord) (before : List Scan) (s : Scan) (k : ℕ)
    → is_set slots (before ++ (s ∷ [])) k ≡ (is_set slots before k || first_writes s k || second_writes s k)
unfolding is_set
set_more slots before s k = simp (written-more, or_assoc)

module _ (slots : List SlotRecord) (before : List Scan) {rec : List Initialization} (t : Tracks (length slots) rec (is_set slots before)) (s : Scan) where
  -- the record that a scan's second slot sees
  between : Tracks (length slots) (access_record rec (first_access s.flow) (first_slot s)) (λ k. is_set slots before k || first_writes s k)
  between = access-tracks t (first_access s.flow) (first_slot s)

  -- a scan's answer
  scan-tracks : (i : ℕ) → scan_fault_in (length slots) rec s i ≡ scan_fault slots before s i
  unfolding scan_fault_in scan_fault
  scan-tracks i =
      simp (slot-tracks t (first_access s.flow) (first_slot s) i, slot-tracks between (second_access s.flow) (second_slot s) i)

  -- and the record after it
  record-tracks : Tracks (length slots) (scan_record rec s) (is_set slots (before ++ (s ∷ [])))
  unfolding scan_record
  record-tracks =
      let after = access-tracks between (second_access s.flow) (second_slot s) in
      record { fits = after.fits; says = λ k h. rw (set_more slots before s k) (after.says k h) }

-- 25
unset-tracks : (slots : List SlotRecord) (scans : List Scan) {n : ℕ} {rec : List Initialization} → Tracks n rec (is_set slots scans)
    → unset_fault_in (take n rec) 0 ≡ unset_fault slots scans n 0
unfolding unset_fault
unset-tracks slots scans {n} {rec} t =
    let long : length (take n rec) ≡ n = length-take-le n rec t.fits in
    first-agree _ _ Unset _ 0 0 (take n rec) (span 0 n) (long ∙ sym (length-span 0 n))
    (λ k h. let l : k < n = omega arith in rw (get_or-take n rec k Unset l, t.says k l, said, get_or-span 0 n k l, zero-add) refl)

-- the scans from number i on, and then the slots that stay unset
scans-track : (slots : List SlotRecord) (before ss : List Scan) {rec : List Initialization} (i : ℕ) → Tracks (length slots) rec (is_set slots before)
    → scans_fault_in (length slots) rec ss i ≡ or_else (scans_fault slots before ss i) (unset_fault slots (before ++ ss) (length slots) 0)
unfolding scans_fault
scans-track slots before [] i t = rw append-nil (unset-tracks slots before t)
scans-track slots before (s ∷ ss) i t =
    let rest = scans-track slots (before ++ (s ∷ [])) ss (i + 1) (record-tracks slots before t s) in
    rw (scan-tracks slots before t s i, rest, append_snoc, or-else-assoc)

-- so a record that begins with the constants decides as the definitions do
pub record-decides : (slots : List SlotRecord) (ss : List Scan) (rec : List Initialization) → length slots ≤ length rec
    → take (length slots) rec ≡ constants_record slots → scans_fault_in (length slots) rec ss 0 ≡ initialization_fault slots ss
unfolding initialization_fault
record-decides slots ss rec l e = scans-track slots [] ss 0 (constants-track slots rec l e)

-- the record that the check begins with
pub constants-decide : (slots : List SlotRecord) (ss : List Scan)
    → scans_fault_in (length (constants_record slots)) (constants_record slots) ss 0 ≡ initialization_fault slots ss
constants-decide slots ss =
    let long : length (constants_record slots) ≡ length slots = simp length-map in
    rw long (record-decides slots ss (constants_record slots) (omega (arith, long)) (take_all (length slots) (constants_record slots) (omega (arith, long))))

pub ruleset decided = constants-decide
