-- The per-slot record of the check (01, "Port order and changes of shape"): what its functions keep. Only private functions cite this;
-- proofs/Tracks.antt shows that the record says what `is_set` says.
use Rattle.std.specs.Prelude.{ℕ, ◌+◌, List, [], ◌∷◌, map, Bool, true, false, not, get_or, set, take, leb}
use Rattle.refusal.specs.Verdict.{Verdict}
use Rattle.refusal.specs.Verdict.{refuse_if, or_else, refuse_first}
use Rattle.plan.specs.declared.Slot.{Slot}
use Rattle.plan.specs.declared.Scan.{Scan}
use Rattle.plan.specs.declared.SlotRecord.{SlotRecord}
use Rattle.plan.specs.declared.Access.{Access}
use Rattle.plan.specs.declared.Access.TheVariants.{Reads, Writes}
use Rattle.plan_check.specs.declared.Initialization.{Initialization}
use Rattle.plan_check.specs.declared.Initialization.TheVariants.{Unset, Set}
use Rattle.plan.specs.Plan.{first_slot, second_slot, first_access, second_access, out_out_eavt, is_constant}
use Rattle.plan_check.specs.Check.{access_fault}

-- an entry of the record, and what it says
abbrev pub state_of : Bool → Initialization
state_of false = Unset
state_of true = Set

abbrev pub is_set_state : Initialization → Bool
is_set_state Unset = false
is_set_state Set = true

-- the record before the first scan
abbrev pub constants_record : List SlotRecord → List Initialization
constants_record = map (λ (s : SlotRecord). state_of (is_constant s.definition))

-- the record after an access, and after a scan
abbrev pub access_record : List Initialization → Access → Slot → List Initialization
access_record rec Reads k = rec
access_record rec Writes k = set rec k.0 Set

unfoldable pub scan_record : List Initialization → Scan → List Initialization
scan_record rec s = access_record (access_record rec (first_access s.flow) (first_slot s)) (second_access s.flow) (second_slot s)

-- 22, then 23 or 24, as the record says
unfoldable pub slot_fault_in : ℕ → List Initialization → Access → Slot → ℕ → Verdict
slot_fault_in n rec a k i = or_else (refuse_if (leb n k.0) 22 i) (access_fault a (is_set_state (get_or rec k.0 Unset)) i)

unfoldable pub scan_fault_in : ℕ → List Initialization → Scan → ℕ → Verdict
scan_fault_in n rec s i =
    or_else (refuse_if (out_out_eavt s.flow s.index) 21 i)
    (or_else (slot_fault_in n rec (first_access s.flow) (first_slot s) i)
    (slot_fault_in n (access_record rec (first_access s.flow) (first_slot s)) (second_access s.flow) (second_slot s) i))

-- 25, as the record says
abbrev pub unset_fault_in : List Initialization → ℕ → Verdict
unset_fault_in rec k = refuse_first (λ (s : Initialization). not (is_set_state s)) 25 k rec

-- the scans from number i on, and then the slots that stay unset
abbrev pub scans_fault_in : ℕ → List Initialization → List Scan → ℕ → Verdict
scans_fault_in n rec [] i = unset_fault_in (take n rec) 0
scans_fault_in n rec (s ∷ ss) i = or_else (scan_fault_in n rec s i) (scans_fault_in n (scan_record rec s) ss (i + 1))
