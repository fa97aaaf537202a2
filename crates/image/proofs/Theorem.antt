-- A stored plan: read after write gives the plan back, an accepted image has one spelling, every shorter beginning answers 60.
use mathlib.Core.Path.{◌≡◌, refl, sym, ap, ◌∙◌}
use Prim.Native.Nat.{ℕ, zero, suc, ◌+◌, ◌*◌, ◌/◌, ◌^◌, ◌<◌, ◌≤◌}
use mathlib.Core.List.{List, [], ◌∷◌, ◌++◌}
use mathlib.Core.Bool.{Bool, true, false, not, ◌&&◌}
use native.Mathlib.Omega.{arith}
use native.Mathlib.Nat.{zero-add}
use borrow.Author.Tests.{ltb-false, le-ltb, eqb-true, not-false}
use lib.ListN.{length, get_or, take, replicate, length-append, length-replicate}
use lib.Seq.{take_all, take-append-le, length-take-le}
use lib.Dec.{ltb, eqb}
use Rattle.capacity.specs.Capacity.{max_scans, max_slots, max_selects}
use Rattle.refusal.specs.Verdict.{Verdict}
use Rattle.std.specs.Prelude.{Ok, Err}
use Rattle.refusal.specs.Verdict.{refused, refuse_if, or_else}
use Rattle.refusal.proofs.Fine.{refuse-fine, or-fine}
use Rattle.lists.proofs.Every.{every_of, every-and}
use Rattle.lists.proofs.Padded.{padded-take}
use Rattle.plan.specs.declared.Slot.{Slot}
use Rattle.plan.specs.declared.Scan.{Scan}
use Rattle.plan.specs.declared.Plan.{Plan}
use Rattle.plan.specs.declared.Index.{Index}
use Rattle.plan.specs.declared.Index.TheVariants.{Aevt, Avet, Eavt}
use Rattle.plan.specs.Plan.{zero_slot, zero_scan, variable_slot, empty_plan, scans_of, slots_of, slots_selected, in_order, counts_fault, SamePlan}
use Rattle.plan.proofs.Counts.{counts-fine}
use Rattle.plan_check.specs.Check.{check_of}
use Rattle.plan_check.proofs.Promises.{promises}
use Rattle.bits.specs.Bits.{packed, unpacked, padding, AllBelow}
use Rattle.bits.proofs.Laws.{packed-below, unpacked-length, unpacked-below, unpacked-packed, unpacked-take, unpacked-same, packed-length}
use Rattle.image.specs.Image.{plan_bits, image_of}
use Rattle.image.specs.Read.{Parsed, met, stopped, and_then, unless_fault, all_zero, end_fault, fields, parsed, read_as, plan_read_of}
use Rattle.lists.specs.Every.{Every}
use Rattle.image.specs.Fits.{ScanHeld, SelectHeld, Held, zeroed, Image}
use Rattle.image.proofs.Below.{plan-below}
use Rattle.image.proofs.Fields.{codec-fields}

-- the end
zeros-all : (n : ℕ) → all_zero (replicate n 0) ≡ true
unfolding all_zero
zeros-all zero = refl
zeros-all (suc n) = zeros-all n

both : (s t : Bool) → (s && t) ≡ true → (s ≡ true) × (t ≡ true)
both true t e = (refl, e)
both false t e = (e, cc)

all-zeros : (l : List ℕ) → all_zero l ≡ true → l ≡ replicate (length l) 0
unfolding all_zero
all-zeros [] h = refl
all-zeros (b ∷ l) h =
    let g = both (eqb b 0) (all_zero l) h in
    rw (eqb-true b 0 g.0) (ap (λ (t : List ℕ). 0 ∷ t) (all-zeros l g.1))

end-fine : (n : ℕ) → end_fault (replicate (padding n) 0) n ≡ Ok tt
unfolding end_fault
end-fine n =
    let k = padding n in
    let long : length {A = ℕ} (replicate k 0) ≡ k = length-replicate {A = ℕ} k 0 in
    let t : take {A = ℕ} k (replicate k 0) ≡ replicate k 0 = take_all {A = ℕ} k (replicate k 0) (omega arith) in
    let u : ltb k (length {A = ℕ} (replicate k 0)) ≡ false = le-ltb k (length {A = ℕ} (replicate k 0)) (omega arith) in
    rw (t, zeros-all k, u) refl

pub record Ended (l : List ℕ) (at : ℕ) : Type 0 where
  pub zeros : l ≡ replicate (length l) 0
  pub few : length l ≤ padding at

end-ended : (l : List ℕ) (at : ℕ) → end_fault l at ≡ Ok tt → Ended l at
unfolding end_fault
end-ended l at e =
    let k = padding at in
    let b = or-fine (refuse_if (not (all_zero (take k l))) 62 (at / 8)) (refuse_if (ltb k (length l)) 63 ((at + k) / 8)) e in
    let few : length l ≤ k = ltb-false k (length l) (refuse-fine (ltb k (length l)) 63 ((at + k) / 8) b.1) in
    let z : all_zero (take k l) ≡ true = not-false _ (refuse-fine (not (all_zero (take k l))) 62 (at / 8) b.0) in
    record { zeros = all-zeros l (rw (take_all k l few) at z); few = few }

-- a plan as it is read, written and read
image-read : (p : Plan) → Image p → check_of p ≡ Ok tt → plan_read_of (image_of p) ≡ record { verdict = Ok tt; plan = p }
unfolding plan_read_of parsed
image-read p h c =
    let n = length (plan_bits p) in
    let z : 0 + n ≡ n = zero-add n in
    let u = unpacked-packed n (plan_bits p) (plan-below p) (omega arith) in
    rw (u, codec-fields.reads p (replicate (padding n) 0) 0 h, z, end-fine n, c) refl

-- and cut
image-short : (p : Plan) (k : ℕ) → Image p → k < length (image_of p) → (place : ℕ) × (plan_read_of (take k (image_of p)) ≡ record { verdict = refused 60 place; plan = empty_plan })
unfolding plan_read_of parsed
image-short p k h few =
    let n = length (plan_bits p) in
    let long : 8 * length (image_of p) ≡ n + padding n = packed-length (plan_bits p) (plan-below p) in
    let lt : 8 * k < n = omega arith in
    let le : 8 * k ≤ n = omega arith in
    let u = unpacked-packed n (plan_bits p) (plan-below p) (omega arith) in
    let s = codec-fields.short p (8 * k) 0 h lt in
    (s.0, rw (unpacked-take k (image_of p), u, take-append-le (8 * k) (plan_bits p) (replicate (padding n) 0) le, s.1) refl)

-- what is accepted was read, ended well and passes the check
pub record Accepted (l : List ℕ) (p : Plan) (l' : List ℕ) (at : ℕ) : Type 0 where
  pub met_all : fields l 0 ≡ met p l' at
  pub ended : end_fault l' at ≡ Ok tt
  pub checked : check_of p ≡ Ok tt

pub accepted : (l : List ℕ) (p : Plan) (l' : List ℕ) (at : ℕ) → parsed l ≡ met p l' at → Accepted l p l' at
unfolding parsed
accepted l p l' at e = go (fields l 0) refl e
  where
    go : (r : Parsed Plan) → fields l 0 ≡ r → and_then r (λ p l' at. unless_fault (or_else (end_fault l' at) (check_of p)) (met p l' at)) ≡ met p l' at → Accepted l p l' at
    go (stopped r) t e = absurd (let z : ◌≡◌ {A = ℕ} 0 1 = cc in omega arith)
    go (met q m k) t e = next (or_else (end_fault m k) (check_of q)) refl e
      where
        next : (v : Verdict) → or_else (end_fault m k) (check_of q) ≡ v → unless_fault v (met q m k) ≡ met p l' at → Accepted l p l' at
        next (Err r) u e = absurd (let z : ◌≡◌ {A = ℕ} 0 1 = cc in omega arith)
        next (Ok tt) u e =
            let b = or-fine (end_fault m k) (check_of q) u in
            let eq : q ≡ p = cc in
            let em : m ≡ l' = cc in
            let ek : k ≡ at = cc in
            record { met_all = rw (← eq, ← em, ← ek) t; ended = rw (← em, ← ek) b.0; checked = rw (← eq) b.1 }

spelled : (b : List ℕ) (p : Plan) (l' : List ℕ) (at : ℕ) → AllBelow 256 b → parsed (unpacked b) ≡ met p l' at → b ≡ image_of p
spelled b p l' at bytes e =
    let a = accepted (unpacked b) p l' at e in
    let s = codec-fields.spells (unpacked b) 0 p l' at (unpacked-below b) a.met_all in
    let n = length (plan_bits p) in
    let d = end-ended l' at a.ended in
    let t : at ≡ n = s.taken ∙ zero-add n in
    let long : 8 * length b ≡ n + length l' = sym (unpacked-length b) ∙ ap length s.spelling ∙ length-append (plan_bits p) l' in
    let few : length l' ≤ padding n = rw t at d.few in
    let full : length l' ≡ padding n = omega arith in
    let u = unpacked-packed n (plan_bits p) (plan-below p) (omega arith) in
    let tail : l' ≡ replicate (padding n) 0 = d.zeros ∙ ap (λ (k : ℕ). replicate k 0) full in
    unpacked-same b (image_of p) bytes (packed-below n (plan_bits p) (plan-below p)) (s.spelling ∙ ap (λ (t : List ℕ). plan_bits p ++ t) tail ∙ sym u)

-- an accepted image has one spelling
pub one-spelling : (b : List ℕ) → AllBelow 256 b → (plan_read_of b).verdict ≡ Ok tt → b ≡ image_of (plan_read_of b).plan
unfolding plan_read_of
one-spelling b bytes e = go (parsed (unpacked b)) refl e
  where
    go : (r : Parsed Plan) → parsed (unpacked b) ≡ r → (read_as r).verdict ≡ Ok tt → b ≡ image_of (read_as r).plan
    go (stopped v) t e = absurd (let z : ◌≡◌ {A = ℕ} 0 1 = cc in omega arith)
    go (met p l' at) t e = spelled b p l' at bytes t

-- both slots of a scan, in index order and by entity and value
in-order : (n : ℕ) (i : Index) (e v : Slot) → (in_order i e v).0 < n → (in_order i v e).0 < n → (e.0 < n) × (v.0 < n)
in-order n Aevt e v h k = (h, k)
in-order n Avet e v h k = (k, h)
in-order n Eavt e v h k = (h, k)

abbrev Named : ℕ → Scan → Type 0
Named n s = (s.entity.0 < n) × (s.value.0 < n)

-- a plan that passes the check, and the same with zeros past its counts
module _ (p : Plan) (fine : check_of p ≡ Ok tt) (held : Held p) where
  counts-passed : counts_fault p.scan_count p.slot_count p.select_count ≡ Ok tt
  unfolding check_of
  counts-passed = (or-fine (counts_fault p.scan_count p.slot_count p.select_count) _ fine).0

  many_scans : length (scans_of p) ≡ p.scan_count
  many_scans =
      let h : p.scan_count ≤ length p.scans = omega (arith, held.filled.many_scans, (counts-fine _ _ _ counts-passed).few_scans) in
      length-take-le p.scan_count p.scans h

  many_slots : length (slots_of p) ≡ p.slot_count
  many_slots =
      let h : p.slot_count ≤ length p.slots = omega (arith, held.filled.many_slots, (counts-fine _ _ _ counts-passed).few_slots) in
      length-take-le p.slot_count p.slots h

  many_selects : length (slots_selected p) ≡ p.select_count
  many_selects =
      let h : p.select_count ≤ length p.select = omega (arith, held.filled.many_selects, (counts-fine _ _ _ counts-passed).few_selects) in
      length-take-le p.select_count p.select h

  scans-same : scans_of (zeroed p) ≡ scans_of p
  scans-same = padded-take zero_scan max_scans p.scan_count (scans_of p) many_scans (counts-fine _ _ _ counts-passed).few_scans

  slots_same : slots_of (zeroed p) ≡ slots_of p
  slots_same = padded-take variable_slot max_slots p.slot_count (slots_of p) many_slots (counts-fine _ _ _ counts-passed).few_slots

  selects-same : slots_selected (zeroed p) ≡ slots_selected p
  selects-same = padded-take zero_slot max_selects p.select_count (slots_selected p) many_selects (counts-fine _ _ _ counts-passed).few_selects

  scans-held : Every ScanHeld (scans_of p)
  scans-held =
      let n = length (slots_of p) in
      let few : n < 128 = omega (arith, many_slots, (counts-fine _ _ _ counts-passed).few_slots) in
      let named : Every (Named n) (scans_of p) = every_of (Named n) zero_scan (scans_of p) (λ j k.
      let s = get_or (scans_of p) j zero_scan in
      let f = (promises p fine).scans_fit j k in
      in-order n s.index s.entity s.value f.first_named f.second_named) in
      every-and (Named n) (λ s. s.attribute.0 < 2 ^ 64) ScanHeld (λ s h a.
      let e : s.entity.0 < 128 = omega (arith, h.0) in
      let v : s.value.0 < 128 = omega (arith, h.1) in
      record { entity = e; attribute = a; value = v }) (scans_of p) named held.attributes

  selects-held : Every SelectHeld (slots_selected p)
  selects-held =
      let few : length (slots_of p) < 128 = omega (arith, many_slots, (counts-fine _ _ _ counts-passed).few_slots) in
      every_of SelectHeld zero_slot (slots_selected p) (λ i h.
      let k = (promises p fine).selects_named i h in
      let m : (get_or (slots_selected p) i zero_slot).0 < 128 = omega (arith, k) in m)

  zeroed-image : Image (zeroed p)
  zeroed-image = record {
    counted = counts-passed;
    many_slots = rw slots_same many_slots;
    slots = rw slots_same held.constants;
    many_scans = rw scans-same many_scans;
    scans = rw scans-same scans-held;
    many_selects = rw selects-same many_selects;
    selects = rw selects-same selects-held;
    zeros = rw (slots_same, scans-same, selects-same) refl;
  }

  zeroed-passes : check_of (zeroed p) ≡ Ok tt
  unfolding check_of
  zeroed-passes = rw (slots_same, scans-same, selects-same) fine

  zeroed-bits : plan_bits (zeroed p) ≡ plan_bits p
  unfolding plan_bits
  zeroed-bits = rw (slots_same, scans-same, selects-same) refl

  -- read after write gives the plan back
  pub read_back : plan_read_of (image_of p) ≡ record { verdict = Ok tt; plan = zeroed p }
  read_back = ap (λ (l : List ℕ). plan_read_of (packed l)) (sym zeroed-bits) ∙ image-read (zeroed p) zeroed-image zeroed-passes

  pub same-plan : SamePlan (zeroed p) p
  same-plan = record { scan_counts = refl; slot_counts = refl; select_counts = refl; scans = scans-same; slots = slots_same; selects = selects-same }

  -- every shorter beginning of a written image answers 60
  pub short-60 : (k : ℕ) → k < length (image_of p) → (place : ℕ) × (plan_read_of (take k (image_of p)) ≡ record { verdict = refused 60 place; plan = empty_plan })
  short-60 k h =
      let e : image_of (zeroed p) ≡ image_of p = ap packed zeroed-bits in
      let s = image-short (zeroed p) k zeroed-image (rw e h) in
      (s.0, ap (λ (b : List ℕ). plan_read_of (take k b)) (sym e) ∙ s.1)
