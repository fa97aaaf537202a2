-- Ticket 2: a plan as bit-packed fields.
use Rattle.std.specs.Prelude.{ℕ, ◌+◌, List, [], ◌∷◌, ◌++◌, length, drop, ltb}
use Rattle.refusal.specs.Verdict.{Verdict}
use Rattle.std.specs.Prelude.{Ok}
use Rattle.refusal.specs.Verdict.{refuse_if, or_else, unless}
use Rattle.lists.specs.Laid.{laid}
use Rattle.plan.specs.declared.Slot.{Slot}
use Rattle.plan.specs.declared.Scan.{Scan}
use Rattle.plan.specs.declared.SlotRecord.{SlotRecord}
use Rattle.plan.specs.declared.SlotDefinition.{SlotDefinition}
use Rattle.plan.specs.declared.SlotDefinition.TheVariants.{Variable, Constant}
use Rattle.plan.specs.declared.Plan.{Plan}
use Rattle.plan.specs.Codes.{index_code, flow_code}
use Rattle.plan.specs.Plan.{scans_of, slots_of, slots_selected}
use Rattle.plan_check.specs.Check.{check_of}
use Rattle.image.specs.Answered.{Stored}
use Rattle.bits.specs.Bits.{bits, packed}

-- per slot one bit for constant and then 64 bits if it is one
abbrev pub definition_bits : SlotDefinition → List ℕ
definition_bits Variable = 0 ∷ []
definition_bits (Constant v) = 1 ∷ bits 64 v

abbrev pub slot_bits : SlotRecord → List ℕ
slot_bits s = definition_bits s.definition

-- that one bit; and how many slots are constants
abbrev pub mark : SlotDefinition → ℕ
mark Variable = 0
mark (Constant v) = 1

unfoldable pub marks_in : List SlotRecord → ℕ
marks_in [] = 0
marks_in (s ∷ ss) = mark s.definition + marks_in ss

-- per scan index 2, flow 2, entity 7, attribute 64, value 7
abbrev pub scan_bits : Scan → List ℕ
scan_bits s = bits 2 (index_code s.index) ++ bits 2 (flow_code s.flow) ++ bits 7 s.entity.0 ++ bits 64 s.attribute.0 ++ bits 7 s.value.0

-- per select 7
abbrev pub select_bits : Slot → List ℕ
select_bits k = bits 7 k.0

-- scan count 6 bits, slot count 7, select count 6; the slots, the scans, the selects
unfoldable pub plan_bits : Plan → List ℕ
plan_bits p =
    bits 6 p.scan_count ++ bits 7 p.slot_count ++ bits 6 p.select_count
    ++ laid slot_bits (slots_of p) ++ laid scan_bits (scans_of p) ++ laid select_bits (slots_selected p)

abbrev pub image_of : Plan → List ℕ
image_of p = packed (plan_bits p)

-- writing gives the plan check, then 64 if the buffer is short
unfoldable pub image_fault : Plan → ℕ → Verdict
image_fault p room = or_else (check_of p) (refuse_if (ltb room (length (image_of p))) 64 0)

-- the image, and bytes past it stay; refused, what was there
unfoldable pub image_after : Plan → List ℕ → List ℕ
image_after p buffer = unless (image_fault p (length buffer)) (λ _. buffer) (image_of p ++ drop (length (image_of p)) buffer)

-- the image's length
unfoldable pub stored_of : Plan → ℕ → Stored
stored_of p room = unless (image_fault p room) (λ v. record { verdict = v; length = 0 }) (record { verdict = Ok tt; length = length (image_of p) })
