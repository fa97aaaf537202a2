-- How long a plan's bits are: 19 of counts, one to a slot and 64 more to a constant, 82 to a scan, 7 to a select.
use mathlib.Core.Path.{◌≡◌, refl, ap, ◌∙◌}
use Prim.Native.Nat.{ℕ, suc, ◌+◌, ◌*◌, ◌/◌, ◌≤◌}
use mathlib.Core.List.{List, [], ◌∷◌}
use native.Mathlib.Omega.{arith}
use lib.ListN.{length, length-append}
use Rattle.plan.specs.Codes.{index_code, flow_code}
use Rattle.plan.specs.declared.Scan.{Scan}
use Rattle.plan.specs.declared.SlotRecord.{SlotRecord}
use Rattle.plan.specs.declared.SlotDefinition.{SlotDefinition}
use Rattle.plan.specs.declared.SlotDefinition.TheVariants.{Variable, Constant}
use Rattle.plan.specs.declared.Plan.{Plan}
use Rattle.plan.specs.Plan.{scans_of, slots_of, slots_selected}
use Rattle.lists.specs.Laid.{laid}
use Rattle.lists.proofs.Laid.{laid-length}
use Rattle.bits.specs.Bits.{bits, padding}
use Rattle.bits.proofs.Laws.{bits-length, packed-length}
use Rattle.image.specs.Image.{definition_bits, slot_bits, scan_bits, select_bits, plan_bits, image_of, mark, marks_in}
use Rattle.image.proofs.Below.{plan-below}

pub scan-length : (s : Scan) → length (scan_bits s) ≡ 82
scan-length s =
    rw (length-append, length-append, length-append, length-append) (omega (arith, bits-length 2 (index_code s.index), bits-length 2 (flow_code s.flow), bits-length 7 s.entity.0, bits-length 64 s.attribute.0, bits-length 7 s.value.0))

slots_length : (l : List SlotRecord) → length (laid slot_bits l) ≡ length l + 64 * marks_in l
unfolding laid marks_in
slots_length [] = refl
slots_length (s ∷ l) = length-append (slot_bits s) (laid slot_bits l) ∙ rw (slots_length l) (one s.definition)
  where
    one : (d : SlotDefinition) → length (definition_bits d) + (length l + 64 * marks_in l) ≡ suc (length l) + 64 * (mark d + marks_in l)
    one Variable = omega arith
    one (Constant v) = let e : length (1 ∷ bits 64 v) ≡ 65 = ap suc (bits-length 64 v) in omega arith

-- a plan, by how many bits its slots take; and by its constants
pub plan-bits : (p : Plan) → length (plan_bits p) ≡ 19 + length (laid slot_bits (slots_of p)) + 82 * length (scans_of p) + 7 * length (slots_selected p)
unfolding plan_bits
plan-bits p =
    let n = bits-length 6 p.scan_count in
    let m = bits-length 7 p.slot_count in
    let k = bits-length 6 p.select_count in
    let xs = laid-length scan_bits 82 scan-length (scans_of p) in
    let ks = laid-length select_bits 7 (λ k. bits-length 7 k.0) (slots_selected p) in
    simp length-append (omega arith)

pub plan-length : (p : Plan)
    → length (plan_bits p) ≡ 19 + (length (slots_of p) + 64 * marks_in (slots_of p)) + 82 * length (scans_of p) + 7 * length (slots_selected p)
plan-length p = plan-bits p ∙ rw (slots_length (slots_of p)) refl

-- the bytes of an image: its bits, rounded up
pub image-length : (p : Plan) → 8 * length (image_of p) ≡ length (plan_bits p) + padding (length (plan_bits p))
image-length p = packed-length (plan_bits p) (plan-below p)

pub image-bytes : (p : Plan) (n : ℕ) → n ≡ length (plan_bits p) → (n + 7) / 8 ≡ length (image_of p)
image-bytes p n e = omega (arith, e, image-length p)

-- a slot, and slots
pub constant-length : (v : ℕ) → length (definition_bits (Constant v)) ≡ 65
constant-length v = ap suc (bits-length 64 v)

pub definition-few : (d : SlotDefinition) → length (definition_bits d) ≤ 65
definition-few Variable = omega arith
definition-few (Constant v) = omega (arith, constant-length v)

constants-few : (l : List SlotRecord) → marks_in l ≤ length l
unfolding marks_in
constants-few [] = omega arith
constants-few (s ∷ l) = let h = constants-few l in one s.definition h
  where
    one : (d : SlotDefinition) → marks_in l ≤ length l → mark d + marks_in l ≤ suc (length l)
    one Variable h = omega arith
    one (Constant v) h = omega arith

pub slots-few : (l : List SlotRecord) → length (laid slot_bits l) ≤ 65 * length l
slots-few l = omega (arith, slots_length l, constants-few l)

-- no image is longer than the capacities ask
pub image-few : (p : Plan) (scans slots selects : ℕ) → length (scans_of p) ≤ scans → length (slots_of p) ≤ slots → length (slots_selected p) ≤ selects
    → 8 * length (image_of p) ≤ 26 + 65 * slots + 82 * scans + 7 * selects
image-few p scans slots selects h i j = omega (arith, image-length p, plan-length p, constants-few (slots_of p))
