-- What a field of an image can hold.
use Rattle.std.specs.Prelude.{◌≡◌, ◌^◌, ◌<◌, length}
use Rattle.lists.specs.Every.{Every}
use Rattle.std.specs.Prelude.{Ok}
use Rattle.plan.specs.declared.Slot.{Slot}
use Rattle.plan.specs.declared.Scan.{Scan}
use Rattle.plan.specs.declared.SlotRecord.{SlotRecord}
use Rattle.plan.specs.declared.SlotDefinition.{SlotDefinition}
use Rattle.plan.specs.declared.SlotDefinition.TheVariants.{Variable, Constant}
use Rattle.plan.specs.declared.Plan.{Plan}
use Rattle.plan.specs.Plan.{scans_of, slots_of, slots_selected, counts_fault, Filled}
use Rattle.image.specs.Read.{plan_read}

-- a constant is a word
abbrev pub DefinitionHeld : SlotDefinition → Type 0
DefinitionHeld Variable = Unit {0}
DefinitionHeld (Constant v) = v < 2 ^ 64

abbrev pub SlotHeld : SlotRecord → Type 0
SlotHeld s = DefinitionHeld s.definition

-- slot numbers have 7 bits, an attribute is a word
pub record ScanHeld (s : Scan) : Type 0 where
  pub entity : s.entity.0 < 2 ^ 7
  pub attribute : s.attribute.0 < 2 ^ 64
  pub value : s.value.0 < 2 ^ 7

abbrev pub SelectHeld : Slot → Type 0
SelectHeld k = k.0 < 2 ^ 7

-- a plan of the code: its arrays are as long as the capacities, its attributes and constants are words
pub record Held (p : Plan) : Type 0 where
  pub filled : Filled p
  pub attributes : Every (λ (s : Scan). s.attribute.0 < 2 ^ 64) (scans_of p)
  pub constants : Every SlotHeld (slots_of p)

-- the plan with zeros past its counts
abbrev pub zeroed : Plan → Plan
zeroed p = plan_read p.scan_count p.slot_count p.select_count (slots_of p) (scans_of p) (slots_selected p)

-- a plan as it is read: counts within the capacities, as many as they say, each in its field, zeros past them
pub record Image (p : Plan) : Type 0 where
  pub counted : counts_fault p.scan_count p.slot_count p.select_count ≡ Ok tt
  pub many_slots : length (slots_of p) ≡ p.slot_count
  pub slots : Every SlotHeld (slots_of p)
  pub many_scans : length (scans_of p) ≡ p.scan_count
  pub scans : Every ScanHeld (scans_of p)
  pub many_selects : length (slots_selected p) ≡ p.select_count
  pub selects : Every SelectHeld (slots_selected p)
  pub zeros : zeroed p ≡ p
