-- 01, "Refusal numbers": the plan check gives 20, 13, then scan by scan (21; then for each of its two slots in index order 22, then 23
-- or 24), then 25, then select by select 26 or 29 (02, Ticket 9).
use Rattle.std.specs.Prelude.{ℕ, ◌+◌, List, [], ◌∷◌, ◌++◌, Bool, true, false, not, ◌||◌, length, leb, eqb}
use Rattle.lists.specs.Span.{span}
use Rattle.refusal.specs.Verdict.{Verdict}
use Rattle.std.specs.Prelude.{Ok}
use Rattle.refusal.specs.Verdict.{refused, refuse_if, or_else, first_fault, refuse_first}
use Rattle.plan.specs.declared.Slot.{Slot}
use Rattle.plan.specs.declared.Scan.{Scan}
use Rattle.plan.specs.declared.SlotRecord.{SlotRecord}
use Rattle.plan.specs.declared.Plan.{Plan}
use Rattle.plan.specs.declared.Access.{Access}
use Rattle.plan.specs.declared.Access.TheVariants.{Reads, Writes}
use Rattle.plan.specs.Plan.{first_slot, second_slot, first_access, second_access, out_out_eavt, constant_at, scans_of, slots_of, slots_selected, counts_fault}

-- an access to slot number a writes slot number k
abbrev pub writes_to : Access → ℕ → ℕ → Bool
writes_to Reads a k = false
writes_to Writes a k = eqb a k

abbrev pub first_writes : Scan → ℕ → Bool
first_writes s k = writes_to (first_access s.flow) (first_slot s).0 k

abbrev pub second_writes : Scan → ℕ → Bool
second_writes s k = writes_to (second_access s.flow) (second_slot s).0 k

-- one of the scans writes slot number k
unfoldable pub is_written : List Scan → ℕ → Bool
is_written [] k = false
is_written (s ∷ ss) k = first_writes s k || second_writes s k || is_written ss k

-- a slot is set after some scans if it is a constant, or one of them writes it
unfoldable pub is_set : List SlotRecord → List Scan → ℕ → Bool
is_set slots before k = constant_at slots k || is_written before k

-- 23: writes a set slot; 24: reads an unset slot
abbrev pub access_fault : Access → Bool → ℕ → Verdict
access_fault Writes false i = Ok tt
access_fault Writes true i = refused 23 i
access_fault Reads false i = refused 24 i
access_fault Reads true i = Ok tt

-- one slot of scan i, of a plan of n slots: 22 where it names none of them, then 23 or 24
unfoldable pub slot_fault : ℕ → Access → Slot → Bool → ℕ → Verdict
slot_fault n a k set i = or_else (refuse_if (leb n k.0) 22 i) (access_fault a set i)

-- scan i after the scans before it: 21, then its first slot, then its second, which the first may have set
unfoldable pub scan_fault : List SlotRecord → List Scan → Scan → ℕ → Verdict
scan_fault slots before s i =
    or_else (refuse_if (out_out_eavt s.flow s.index) 21 i)
    (or_else (slot_fault (length slots) (first_access s.flow) (first_slot s) (is_set slots before (first_slot s).0) i)
    (slot_fault (length slots) (second_access s.flow) (second_slot s) (is_set slots before (second_slot s).0 || first_writes s (second_slot s).0) i))

-- the scans from number i on
unfoldable pub scans_fault : List SlotRecord → List Scan → List Scan → ℕ → Verdict
scans_fault slots before [] i = Ok tt
scans_fault slots before (s ∷ ss) i = or_else (scan_fault slots before s i) (scans_fault slots (before ++ (s ∷ [])) ss (i + 1))

-- 25: the lowest slot that is never set, of those from number k on
unfoldable pub unset_fault : List SlotRecord → List Scan → ℕ → ℕ → Verdict
unset_fault slots scans left k = refuse_first (λ (j : ℕ). not (is_set slots scans j)) 25 k (span k left)

unfoldable pub initialization_fault : List SlotRecord → List Scan → Verdict
initialization_fault slots scans = or_else (scans_fault slots [] scans 0) (unset_fault slots scans (length slots) 0)

-- select i: 26 where it names no slot, 29 where it names a constant
unfoldable pub select_fault : List SlotRecord → ℕ → Slot → Verdict
select_fault slots i k = or_else (refuse_if (leb (length slots) k.0) 26 i) (refuse_if (constant_at slots k.0) 29 i)

-- at the lowest select, from number i on, for which one of the two holds
unfoldable pub selects_fault : List SlotRecord → List Slot → ℕ → Verdict
selects_fault slots ks i = first_fault (select_fault slots) i ks

-- the plan check
unfoldable pub check_of : Plan → Verdict
check_of p =
    or_else (counts_fault p.scan_count p.slot_count p.select_count)
    (or_else (refuse_if (eqb p.select_count 0) 13 0)
    (or_else (initialization_fault (slots_of p) (scans_of p)) (selects_fault (slots_of p) (slots_selected p) 0)))
