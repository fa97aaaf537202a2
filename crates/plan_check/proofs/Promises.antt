-- A plan passes the check exactly if it is as `Promised` says: part by part, that nothing is refused is what the part promises.
use mathlib.Core.Path.{◌≡◌, refl}
use mathlib.Core.Logic.{◌↔◌, ⊎_elim}
use Prim.Native.Nat.{ℕ, suc, ◌+◌, ◌≤◌, ◌<◌}
use mathlib.Core.List.{List, [], ◌∷◌, ◌++◌, append-nil}
use mathlib.Core.Bool.{Bool, true, false, ◌||◌, false≢true}
use native.Mathlib.Nat.{zero-add, not-suc-le-zero, eq-or-lt_of_le}
use native.Mathlib.Omega.{arith}
use borrow.Author.Tests.{leb-false, lt-leb, le-ltb, eqb-false, ne_eqb, not-false}
use lib.ListN.{length, get_or, take}
use lib.Seq.{append_snoc, length-take-le}
use lib.Dec.{leb, eqb}
use Rattle.lists.proofs.Walk.{each}
use Rattle.std.specs.Prelude.{Ok}
use Rattle.refusal.specs.Verdict.{refuse_if}
use Rattle.refusal.proofs.Fine.{refuse-fine, or-fine}
use Rattle.refusal.proofs.First.{first_fine, each_number}
use Rattle.plan.specs.declared.Slot.{Slot}
use Rattle.plan.specs.declared.Scan.{Scan}
use Rattle.plan.specs.declared.SlotRecord.{SlotRecord}
use Rattle.plan.specs.declared.Plan.{Plan}
use Rattle.plan.specs.declared.Access.{Access}
use Rattle.plan.specs.declared.Access.TheVariants.{Reads, Writes}
use Rattle.plan.specs.Plan.{first_slot, second_slot, first_access, second_access, out_out_eavt, constant_at, counts_fault, zero_slot, zero_scan, scans_of, slots_of, slots_selected}
use Rattle.plan.proofs.Counts.{counts-fine}
use Rattle.plan_check.specs.Check.{first_writes, is_written, is_set, access_fault, slot_fault, scan_fault, scans_fault, unset_fault, initialization_fault, select_fault, selects_fault, check_of}
use Rattle.plan_check.specs.Promised.{Rightly, Fits, Promised}

-- 23 and 24: what is read is set, and what is written is not
access-fine : (a : Access) (set : Bool) (i : ℕ) → access_fault a set i ≡ Ok tt ↔ Rightly a set
access-fine Reads true i = (λ e. refl, λ r. refl)
access-fine Reads false i = (λ e. cc, λ r. cc)
access-fine Writes true i = (λ e. cc, λ r. cc)
access-fine Writes false i = (λ e. refl, λ r. refl)

-- 22 too: the slot is one of n
slot-fine : (n : ℕ) (a : Access) (x : Slot) (set : Bool) (i : ℕ) → slot_fault n a x set i ≡ Ok tt ↔ (x.0 < n) × Rightly a set
unfolding slot_fault
slot-fine n a x set i = (
  λ e.
      let b = or-fine (refuse_if (leb n x.0) 22 i) (access_fault a set i) e in
      (leb-false _ _ (refuse-fine _ _ _ b.0), (access-fine a set i).0 b.1),
  λ h. simp (lt-leb _ _ h.0, (access-fine a set i).1 h.1),
)

module _ (slots : List SlotRecord) where
  -- 21 too: the scan fits after those before it
  scan-fine : (before : List Scan) (s : Scan) (i : ℕ) → scan_fault slots before s i ≡ Ok tt ↔ Fits slots before s
  unfolding scan_fault
  scan-fine before s i =
      let n = length slots in
      let x = (first_slot s).0 in
      let y = (second_slot s).0 in
      let first = slot-fine n (first_access s.flow) (first_slot s) (is_set slots before x) i in
      let second = slot-fine n (second_access s.flow) (second_slot s) (is_set slots before y || first_writes s y) i in (
        λ e.
            let a = or-fine (refuse_if (out_out_eavt s.flow s.index) 21 i) _ e in
            let b = or-fine (slot_fault n (first_access s.flow) (first_slot s) (is_set slots before x) i) _ a.1 in
            record {
              not_out_out_eavt = refuse-fine _ _ _ a.0;
              first_named = (first.0 b.0).0;
              first_right = (first.0 b.0).1;
              second_named = (second.0 b.1).0;
              second_right = (second.0 b.1).1;
            },
        λ f. simp (f.not_out_out_eavt, first.1 (f.first_named, f.first_right), second.1 (f.second_named, f.second_right)),
      )

  -- each of the scans fits after those before it
  scans-fine : (before ss : List Scan) (i : ℕ)
      → scans_fault slots before ss i ≡ Ok tt ↔ ((j : ℕ) → j < length ss → Fits slots (before ++ take j ss) (get_or ss j zero_scan))
  unfolding scans_fault
  scans-fine before [] i = (λ e j h. absurd (not-suc-le-zero h), λ f. refl)
  scans-fine before (s ∷ ss) i =
      let first = scan-fine before s i in
      let rest = scans-fine (before ++ (s ∷ [])) ss (i + 1) in (
        λ e.
            let b = or-fine (scan_fault slots before s i) _ e in
            each (λ j. Fits slots (before ++ take j (s ∷ ss)) (get_or (s ∷ ss) j zero_scan)) (length ss)
            (rw append-nil (first.0 b.0))
            (λ j h. rw append_snoc at (rest.0 b.1 j h)),
        λ f. simp (first.1 (rw append-nil at (f 0 (omega arith)))) (rest.1 (λ j h. rw append_snoc (f (suc j) (omega arith)))),
      )

  -- 25: each of so many slots from number k on is set
  unset-fine : (scans : List Scan) (left k : ℕ)
      → unset_fault slots scans left k ≡ Ok tt ↔ ((j : ℕ) → j < left → is_set slots scans (k + j) ≡ true)
  unfolding unset_fault
  unset-fine scans left k =
      let set = each_number _ _ k k left in
      (λ e j h. not-false _ (set.0 e j h), λ f. set.1 (λ j h. rw (f j h) refl))

  -- 26 and 29: each of the selects names a slot of a variable
  selects_fine : (ks : List Slot) (i : ℕ)
      → selects_fault slots ks i ≡ Ok tt
      ↔ ((j : ℕ) → j < length ks → ((get_or ks j zero_slot).0 < length slots) × (constant_at slots (get_or ks j zero_slot).0 ≡ false))
  unfolding selects_fault select_fault
  selects_fine ks i =
      let fine = first_fine (select_fault slots) zero_slot i ks in (
        λ e j h.
            let b = or-fine (refuse_if (leb (length slots) (get_or ks j zero_slot).0) 26 (i + j)) _ (fine.0 e j h) in
            (leb-false _ _ (refuse-fine _ _ _ b.0), refuse-fine _ _ _ b.1),
        λ f. fine.1 (λ j h. simp (lt-leb _ _ (f j h).0, (f j h).1)),
      )

-- what a caller has of a plan that passes
pub promises : (p : Plan) → check_of p ≡ Ok tt → Promised p
unfolding check_of initialization_fault
promises p e =
    let slots = slots_of p in
    let scans = scans_of p in
    let a = or-fine (counts_fault p.scan_count p.slot_count p.select_count) _ e in
    let b = or-fine (refuse_if (eqb p.select_count 0) 13 0) _ a.1 in
    let d = or-fine (initialization_fault slots scans) _ b.1 in
    let f = or-fine (scans_fault slots [] scans 0) _ d.0 in
    let w = counts-fine _ _ _ a.0 in
    let some : eqb p.select_count 0 ≡ false = refuse-fine _ _ _ b.0 in
    record {
      few_scans = w.few_scans;
      few_slots = w.few_slots;
      few_selects = w.few_selects;
      some_select = omega (arith, eqb-false);
      scans_fit = (scans-fine slots [] scans 0).0 f.0;
      all_set = λ k h. rw zero-add at ((unset-fine slots scans (length slots) 0).0 f.1 k h);
      selects_named = λ i h. ((selects_fine slots (slots_selected p) 0).0 d.1 i h).0;
      selects_variable = λ i h. ((selects_fine slots (slots_selected p) 0).0 d.1 i h).1;
    }

-- and all that it takes to pass
pub promised-passes : (p : Plan) → Promised p → check_of p ≡ Ok tt
unfolding check_of initialization_fault counts_fault
promised-passes p q =
    let slots = slots_of p in
    let scans = scans_of p in
    simp (le-ltb _ _ q.few_slots, le-ltb _ _ q.few_scans, le-ltb _ _ q.few_selects, ne_eqb p.select_count 0 (λ z. omega arith))
    (simp (
      (scans-fine slots [] scans 0).1 q.scans_fit,
      (unset-fine slots scans (length slots) 0).1 (λ k h. rw zero-add (q.all_set k h)),
      (selects_fine slots (slots_selected p) 0).1 (λ i h. (q.selects_named i h, q.selects_variable i h)),
    ))

-- a plan that passes has a scan: without one every slot is a constant, and there would be nothing to select
pub scans-there : (p : Plan) → p.select_count ≤ length p.select → check_of p ≡ Ok tt → 0 < p.scan_count
unfolding is_set is_written
scans-there p fits e =
    let q = promises p e in
    let some : 0 < length (slots_selected p) = omega (arith, length-take-le p.select_count p.select fits, q.some_select) in
    ⊎_elim
    (λ (none : 0 ≡ p.scan_count).
    let set = q.all_set (get_or (slots_selected p) 0 zero_slot).0 (q.selects_named 0 some) in
    absurd (false≢true (rw (q.selects_variable 0 some, ← none) at set)))
    (λ (h : 0 < p.scan_count). h)
    (eq-or-lt_of_le (omega arith))

pub ruleset counted = counts-fine
