-- The fields of a plan.
use mathlib.Core.Path.{◌≡◌, sym, ap, ◌∙◌}
use Prim.Native.Nat.{ℕ, ◌^◌, ◌<◌}
use mathlib.Core.List.{List, ◌++◌, append_assoc}
use native.Mathlib.Omega.{arith}
use lib.ListN.{length}
use Rattle.capacity.specs.Capacity.{max_scans, max_slots, max_selects}
use Rattle.std.specs.Prelude.{Ok}
use Rattle.lists.proofs.Padded.{padded-take}
use Rattle.plan.specs.declared.Scan.{Scan}
use Rattle.plan.specs.declared.SlotRecord.{SlotRecord}
use Rattle.plan.specs.declared.Plan.{Plan}
use Rattle.plan.specs.Plan.{zero_slot, zero_scan, variable_slot, scans_of, slots_of, slots_selected, counts_fault}
use Rattle.plan.proofs.Counts.{counts-fine}
use Rattle.lists.specs.Laid.{laid}
use Rattle.bits.specs.Bits.{bits}
use Rattle.image.specs.Image.{slot_bits, scan_bits, select_bits, plan_bits}
use Rattle.image.specs.Read.{Parsed, met, and_then, unless_fault, field, slot, scan, select, many, plan_read, fields}
use Rattle.lists.specs.Every.{Every}
use Rattle.image.specs.Fits.{SlotHeld, ScanHeld, SelectHeld, Image}
use Rattle.image.proofs.Codec.{Codec, codec-field, codec-then, codec-map, codec-guard, codec-as, codec-many}
use Rattle.image.proofs.Readers.{codec-slot, codec-scan, codec-select}

abbrev Many : {A : Type 0} → (A → Type 0) → ℕ → List A → Type 0
Many Fit n xs = (length xs ≡ n) × Every Fit xs

abbrev Fit6 : ℕ → ℕ → ℕ → List SlotRecord → List Scan → Plan → Type 0
Fit6 n m k ss xs p = Many SelectHeld k (slots_selected p) × (plan_read n m k ss xs (slots_selected p) ≡ p)

abbrev Fit5 : ℕ → ℕ → ℕ → List SlotRecord → Plan → Type 0
Fit5 n m k ss p = Many ScanHeld n (scans_of p) × Fit6 n m k ss (scans_of p) p

abbrev Fit4 : ℕ → ℕ → ℕ → Plan → Type 0
Fit4 n m k p = Many SlotHeld m (slots_of p) × Fit5 n m k (slots_of p) p

abbrev Guarded : ℕ → ℕ → ℕ → Plan → Type 0
Guarded n m k p = (counts_fault n m k ≡ Ok tt) × Fit4 n m k p

abbrev Fit3 : ℕ → ℕ → Plan → Type 0
Fit3 n m p = (p.select_count < 2 ^ 6) × Guarded n m p.select_count p

abbrev Fit2 : ℕ → Plan → Type 0
Fit2 n p = (p.slot_count < 2 ^ 7) × Fit3 n p.slot_count p

abbrev Fit1 : Plan → Type 0
Fit1 p = (p.scan_count < 2 ^ 6) × Fit2 p.scan_count p

abbrev part6 : ℕ → ℕ → ℕ → List SlotRecord → List Scan → List ℕ → ℕ → Parsed Plan
part6 n m k ss xs l at = and_then (many select k l at) (λ ks l at. met (plan_read n m k ss xs ks) l at)

abbrev part5 : ℕ → ℕ → ℕ → List SlotRecord → List ℕ → ℕ → Parsed Plan
part5 n m k ss l at = and_then (many scan n l at) (part6 n m k ss)

abbrev part4 : ℕ → ℕ → ℕ → List ℕ → ℕ → Parsed Plan
part4 n m k l at = and_then (many slot m l at) (part5 n m k)

abbrev guarded : ℕ → ℕ → ℕ → List ℕ → ℕ → Parsed Plan
guarded n m k l at = unless_fault (counts_fault n m k) (part4 n m k l at)

abbrev part3 : ℕ → ℕ → List ℕ → ℕ → Parsed Plan
part3 n m l at = and_then (field 6 l at) (guarded n m)

abbrev part2 : ℕ → List ℕ → ℕ → Parsed Plan
part2 n l at = and_then (field 7 l at) (part3 n)

abbrev bits6 : Plan → List ℕ
bits6 p = laid select_bits (slots_selected p)

abbrev bits5 : Plan → List ℕ
bits5 p = laid scan_bits (scans_of p) ++ bits6 p

abbrev bits4 : Plan → List ℕ
bits4 p = laid slot_bits (slots_of p) ++ bits5 p

abbrev bits3 : Plan → List ℕ
bits3 p = bits 6 p.select_count ++ bits4 p

abbrev bits2 : Plan → List ℕ
bits2 p = bits 7 p.slot_count ++ bits3 p

module _ (n m k : ℕ) (fine : counts_fault n m k ≡ Ok tt) where
  codec6 : (ss : List SlotRecord) (xs : List Scan) → Codec (part6 n m k ss xs) bits6 (Fit6 n m k ss xs)
  codec6 ss xs =
      codec-map (many select k) (laid select_bits) (Many SelectHeld k) (codec-many select select_bits SelectHeld codec-select k) (plan_read n m k ss xs) slots_selected
      (λ ks h. padded-take zero_slot max_selects k ks h.0 (counts-fine n m k fine).few_selects)

  codec5 : (ss : List SlotRecord) → Codec (part5 n m k ss) bits5 (Fit5 n m k ss)
  codec5 ss =
      codec-then (many scan n) (laid scan_bits) (Many ScanHeld n) (codec-many scan scan_bits ScanHeld codec-scan n) (λ at. part6 n m k ss) (λ xs. bits6) (Fit6 n m k ss) (λ at xs h. codec6 ss xs) scans_of
      (λ xs p h f. ap scans_of (sym f.1) ∙ padded-take zero_scan max_scans n xs h.0 (counts-fine n m k fine).few_scans)

  codec4 : Codec (part4 n m k) bits4 (Fit4 n m k)
  codec4 =
      codec-then (many slot m) (laid slot_bits) (Many SlotHeld m) (codec-many slot slot_bits SlotHeld codec-slot m) (λ at. part5 n m k) (λ ss. bits5) (Fit5 n m k) (λ at ss h. codec5 ss) slots_of
      (λ ss p h f. ap slots_of (sym f.1.1) ∙ padded-take variable_slot max_slots m ss h.0 (counts-fine n m k fine).few_slots)

codec-guarded : (n m k : ℕ) → Codec (guarded n m k) bits4 (Guarded n m k)
codec-guarded n m k = codec-guard (counts_fault n m k) (part4 n m k) bits4 (Fit4 n m k) (codec4 n m k)

codec3 : (n m : ℕ) → Codec (part3 n m) bits3 (Fit3 n m)
codec3 n m =
    codec-then (field 6) (bits 6) (λ c. c < 2 ^ 6) (codec-field 6) (λ at. guarded n m) (λ k. bits4) (Guarded n m) (λ at k h. codec-guarded n m k) (λ p. p.select_count)
    (λ k p h f. sym (ap (λ (p : Plan). p.select_count) f.1.1.1.1))

codec2 : (n : ℕ) → Codec (part2 n) bits2 (Fit2 n)
codec2 n =
    codec-then (field 7) (bits 7) (λ c. c < 2 ^ 7) (codec-field 7) (λ at. part3 n) (λ m. bits3) (Fit3 n) (λ at m h. codec3 n m) (λ p. p.slot_count)
    (λ m p h f. sym (ap (λ (p : Plan). p.slot_count) f.1.1.1.1.1))

plan-to : (p : Plan) → Fit1 p → Image p
plan-to p h =
    let g = h.1.1.1 in
    record {
      counted = g.0;
      many_slots = g.1.0.0;
      slots = g.1.0.1;
      many_scans = g.1.1.0.0;
      scans = g.1.1.0.1;
      many_selects = g.1.1.1.0.0;
      selects = g.1.1.1.0.1;
      zeros = g.1.1.1.1;
    }

plan-fro : (p : Plan) → Image p → Fit1 p
plan-fro p h =
    let c = counts-fine _ _ _ h.counted in
    let n : p.scan_count < 64 = omega (arith, c.few_scans) in
    let m : p.slot_count < 128 = omega (arith, c.few_slots) in
    let k : p.select_count < 64 = omega (arith, c.few_selects) in
    (n, (m, (k, (h.counted, ((h.many_slots, h.slots), ((h.many_scans, h.scans), ((h.many_selects, h.selects), h.zeros)))))))

plan-same : (p : Plan) → bits 6 p.scan_count ++ bits2 p ≡ plan_bits p
unfolding plan_bits
plan-same p = simp append_assoc

pub codec-fields : Codec fields plan_bits Image
unfolding fields
codec-fields =
    codec-as fields (λ p. bits 6 p.scan_count ++ bits2 p) plan_bits Fit1 Image plan-to plan-fro (λ p h. plan-same p)
    (codec-then (field 6) (bits 6) (λ c. c < 2 ^ 6) (codec-field 6) (λ at. part2) (λ n. bits2) Fit2 (λ at n h. codec2 n) (λ p. p.scan_count)
    (λ n p h f. sym (ap (λ (p : Plan). p.scan_count) f.1.1.1.1.1.1)))
