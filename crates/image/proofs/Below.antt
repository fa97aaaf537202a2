-- The bits of a plan, and of each of its parts, are 0s and 1s.
use Prim.Native.Nat.{ℕ}
use mathlib.Core.List.{List, ◌++◌}
use native.Mathlib.Omega.{arith}
use Rattle.lists.specs.Laid.{laid}
use Rattle.plan.specs.declared.Slot.{Slot}
use Rattle.plan.specs.declared.Scan.{Scan}
use Rattle.plan.specs.declared.SlotRecord.{SlotRecord}
use Rattle.plan.specs.declared.SlotDefinition.{SlotDefinition}
use Rattle.plan.specs.declared.SlotDefinition.TheVariants.{Variable, Constant}
use Rattle.plan.specs.declared.Plan.{Plan}
use Rattle.plan.specs.Codes.{index_code, flow_code}
use Rattle.plan.specs.Plan.{scans_of, slots_of, slots_selected}
use Rattle.bits.specs.Bits.{bits, AllBelow}
use Rattle.bits.proofs.Laws.{below-append, bits_below, laid-below}
use Rattle.image.specs.Image.{definition_bits, slot_bits, scan_bits, select_bits, plan_bits}

record Bitwise (l : List ℕ) : Type 0 where
  below : AllBelow 2 l

join : {l m : List ℕ} → Bitwise l → Bitwise m → Bitwise (l ++ m)
join {l} {m} a b = record { below = below-append 2 l m a.below b.below }

bitwise : (w n : ℕ) → Bitwise (bits w n)
bitwise w n = record { below = bits_below w n }

pub definition-below : (d : SlotDefinition) → AllBelow 2 (definition_bits d)
definition-below Variable = (omega arith, tt)
definition-below (Constant v) = (omega arith, bits_below 64 v)

pub scan-below : (s : Scan) → AllBelow 2 (scan_bits s)
scan-below s =
    (join (join (join (join (bitwise 2 (index_code s.index)) (bitwise 2 (flow_code s.flow))) (bitwise 7 s.entity.0)) (bitwise 64 s.attribute.0)) (bitwise 7 s.value.0)).below

pub counts-below : (n m k : ℕ) → AllBelow 2 (bits 6 n ++ bits 7 m ++ bits 6 k)
counts-below n m k = (join (join (bitwise 6 n) (bitwise 7 m)) (bitwise 6 k)).below

pub slots-below : (l : List SlotRecord) → AllBelow 2 (laid slot_bits l)
slots-below = laid-below slot_bits 2 (λ s. definition-below s.definition)

pub scans-below : (l : List Scan) → AllBelow 2 (laid scan_bits l)
scans-below = laid-below scan_bits 2 scan-below

pub selects-below : (l : List Slot) → AllBelow 2 (laid select_bits l)
selects-below = laid-below select_bits 2 (λ k. bits_below 7 k.0)

pub plan-below : (p : Plan) → AllBelow 2 (plan_bits p)
unfolding plan_bits
plan-below p =
    let counts : Bitwise (bits 6 p.scan_count ++ bits 7 p.slot_count ++ bits 6 p.select_count) = record { below = counts-below _ _ _ } in
    let ss : Bitwise (laid slot_bits (slots_of p)) = record { below = slots-below (slots_of p) } in
    let xs : Bitwise (laid scan_bits (scans_of p)) = record { below = scans-below (scans_of p) } in
    let ks : Bitwise (laid select_bits (slots_selected p)) = record { below = selects-below (slots_selected p) } in
    (join (join (join counts ss) xs) ks).below
