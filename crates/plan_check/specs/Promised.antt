-- What a plan that passes the check promises: all that evaluation sees of it.
use Rattle.std.specs.Prelude.{◌≡◌, ℕ, ◌≤◌, ◌<◌, List, Bool, true, false, ◌||◌, length, get_or, take}
use Rattle.capacity.specs.Capacity.{max_scans, max_slots, max_selects}
use Rattle.plan.specs.declared.Scan.{Scan}
use Rattle.plan.specs.declared.SlotRecord.{SlotRecord}
use Rattle.plan.specs.declared.Plan.{Plan}
use Rattle.plan.specs.declared.Access.{Access}
use Rattle.plan.specs.declared.Access.TheVariants.{Reads, Writes}
use Rattle.plan.specs.Plan.{first_slot, second_slot, first_access, second_access, out_out_eavt, constant_at, zero_slot, zero_scan, scans_of, slots_of, slots_selected}
use Rattle.plan_check.specs.Check.{first_writes, is_set}

-- what is read is set, and what is written is not
abbrev pub Rightly : Access → Bool → Type 0
Rightly Reads set = set ≡ true
Rightly Writes set = set ≡ false

-- a scan after the scans before it, in a plan of these slots: both its slots are slots of the plan, each read slot is a constant or was
-- written by a scan before it, each written one is neither, and it does not write one slot twice
pub record Fits (slots : List SlotRecord) (before : List Scan) (s : Scan) : Type 0 where
  pub not_out_out_eavt : out_out_eavt s.flow s.index ≡ false
  pub first_named : (first_slot s).0 < length slots
  pub first_right : Rightly (first_access s.flow) (is_set slots before (first_slot s).0)
  pub second_named : (second_slot s).0 < length slots
  pub second_right : Rightly (second_access s.flow) (is_set slots before (second_slot s).0 || first_writes s (second_slot s).0)

-- the counts are within the capacities, there is a select, each scan fits after those before it, every slot is set in the end, and each
-- select names a slot of a variable
pub record Promised (p : Plan) : Type 0 where
  pub few_scans : p.scan_count ≤ max_scans
  pub few_slots : p.slot_count ≤ max_slots
  pub few_selects : p.select_count ≤ max_selects
  pub some_select : 0 < p.select_count
  pub scans_fit : (j : ℕ) → j < length (scans_of p) → Fits (slots_of p) (take j (scans_of p)) (get_or (scans_of p) j zero_scan)
  pub all_set : (k : ℕ) → k < length (slots_of p) → is_set (slots_of p) (scans_of p) k ≡ true
  pub selects_named : (i : ℕ) → i < length (slots_selected p) → (get_or (slots_selected p) i zero_slot).0 < length (slots_of p)
  pub selects_variable : (i : ℕ) → i < length (slots_selected p) → constant_at (slots_of p) (get_or (slots_selected p) i zero_slot).0 ≡ false
