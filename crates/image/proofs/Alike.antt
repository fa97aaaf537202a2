-- Images and plans, one for one.
use mathlib.Core.Path.{◌≡◌, refl, sym, ap, ◌∙◌}
use Prim.Native.Nat.{ℕ, ◌^◌, ◌<◌, ◌≤◌}
use mathlib.Core.List.{List, ◌++◌}
use native.Mathlib.Omega.{arith}
use borrow.Author.Tests.{ltb-false}
use lib.ListN.{length, take, drop, length-append, length-drop}
use lib.Seq.{take-append_seam, drop-append_seam}
use lib.Dec.{ltb}
use Rattle.capacity.specs.Capacity.{max_scans, max_slots, max_selects}
use Rattle.std.specs.Prelude.{Ok}
use Rattle.refusal.specs.Verdict.{refuse_if}
use Rattle.refusal.proofs.Fine.{refuse-fine, or-fine}
use Rattle.lists.proofs.Every.{every_map}
use Rattle.lists.proofs.Padded.{padded-length}
use Rattle.plan.specs.declared.Plan.{Plan}
use Rattle.plan.specs.Plan.{zero_slot, zero_scan, variable_slot, scans_of, slots_of, slots_selected, SamePlan}
use Rattle.plan_check.specs.Check.{check_of}
use Rattle.bits.specs.Bits.{packed, unpacked, AllBelow}
use Rattle.bits.proofs.Laws.{unpacked-below}
use Rattle.image.specs.Answered.{PlanRead}
use Rattle.image.specs.Image.{plan_bits, image_of, image_fault, image_after}
use Rattle.image.specs.Read.{Parsed, met, stopped, parsed, read_as, plan_read_of}
use Rattle.image.specs.Fits.{ScanHeld, Held, zeroed, Image}
use Rattle.image.proofs.Fields.{codec-fields}
use Rattle.image.proofs.Theorem.{accepted, read_back, one-spelling}

-- equal plans have one image
pub image-alike : (p q : Plan) → SamePlan p q → image_of p ≡ image_of q
unfolding plan_bits
image-alike p q e = let h : plan_bits p ≡ plan_bits q = rw (e.slots, e.scans, e.selects, e.scan_counts, e.slot_counts, e.select_counts) refl in ap packed h

-- and plans that pass the check and have one image are equal
pub same-image : (p q : Plan) → check_of p ≡ Ok tt → Held p → check_of q ≡ Ok tt → Held q → image_of p ≡ image_of q → zeroed p ≡ zeroed q
same-image p q f h g k e = ap (λ (r : PlanRead). r.plan) (sym (read_back p f h) ∙ ap plan_read_of e ∙ read_back q g k)

-- two accepted images of equal plans are the same bytes
pub same-spelling : (b c : List ℕ) → AllBelow 256 b → AllBelow 256 c → (plan_read_of b).verdict ≡ Ok tt → (plan_read_of c).verdict ≡ Ok tt
    → SamePlan (plan_read_of b).plan (plan_read_of c).plan → b ≡ c
same-spelling b c p q f g e = one-spelling b p f ∙ image-alike (plan_read_of b).plan (plan_read_of c).plan e ∙ sym (one-spelling c q g)

image-held : (p : Plan) → Image p → Held p
image-held p h = record {
  filled = record {
    many_scans = ap (λ (q : Plan). length q.scans) (sym h.zeros) ∙ padded-length zero_scan max_scans (scans_of p);
    many_slots = ap (λ (q : Plan). length q.slots) (sym h.zeros) ∙ padded-length variable_slot max_slots (slots_of p);
    many_selects = ap (λ (q : Plan). length q.select) (sym h.zeros) ∙ padded-length zero_slot max_selects (slots_selected p);
  };
  attributes = every_map ScanHeld (λ s. s.attribute.0 < 2 ^ 64) (λ s e. e.attribute) (scans_of p) h.scans;
  constants = h.slots;
}

-- what is accepted passes the check and can be written again
pub read_held : (b : List ℕ) → (plan_read_of b).verdict ≡ Ok tt → Held (plan_read_of b).plan × (check_of (plan_read_of b).plan ≡ Ok tt)
unfolding plan_read_of
read_held b e = go (parsed (unpacked b)) refl e
  where
    go : (r : Parsed Plan) → parsed (unpacked b) ≡ r → (read_as r).verdict ≡ Ok tt → Held (read_as r).plan × (check_of (read_as r).plan ≡ Ok tt)
    go (stopped v) t e = absurd (let z : ◌≡◌ {A = ℕ} 0 1 = cc in omega arith)
    go (met p l' at) t e =
        let a = accepted (unpacked b) p l' at t in
        let s = codec-fields.spells (unpacked b) 0 p l' at (unpacked-below b) a.met_all in
        (image-held p s.fits, a.checked)

-- writing changes no byte but the image's, and what it wrote reads back
module _ (p : Plan) (buffer : List ℕ) (fine : image_fault p (length buffer) ≡ Ok tt) where
  after : image_after p buffer ≡ image_of p ++ drop (length (image_of p)) buffer
  unfolding image_after
  after = rw fine refl

  pub after-room : length (image_of p) ≤ length buffer
  unfolding image_fault
  after-room =
      let f = or-fine (check_of p) (refuse_if (ltb (length buffer) (length (image_of p))) 64 0) fine in
      ltb-false (length buffer) (length (image_of p)) (refuse-fine _ 64 0 f.1)

  pub after_front : take (length (image_of p)) (image_after p buffer) ≡ image_of p
  after_front = rw after (take-append_seam (image_of p) (drop (length (image_of p)) buffer))

  pub after-behind : drop (length (image_of p)) (image_after p buffer) ≡ drop (length (image_of p)) buffer
  after-behind = rw after (drop-append_seam (image_of p) (drop (length (image_of p)) buffer))

  pub after-length : length (image_after p buffer) ≡ length buffer
  after-length = rw after (length-append (image_of p) (drop (length (image_of p)) buffer) ∙ rw (length-drop (length (image_of p)) buffer) (omega (arith, after-room)))
