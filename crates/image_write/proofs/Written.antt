-- What is counted and written part by part is the plan's image.
use mathlib.Core.Path.{◌≡◌, refl, sym, ◌∙◌}
use Prim.Native.Nat.{ℕ, ◌+◌, ◌*◌, ◌/◌, ◌≤◌, ◌<◌}
use mathlib.Core.List.{List, ◌++◌}
use native.Mathlib.Omega.{arith}
use borrow.Author.Tests.{lt-ltb, le-ltb}
use lib.ListN.{length, drop}
use lib.Seq.{length-take-le}
use Rattle.std.specs.Prelude.{Result, Ok, Err}
use Rattle.refusal.specs.Verdict.{Refusal, answer, rule_of}
use Rattle.refusal.proofs.Fine.{or-fine}
use Rattle.lists.specs.Laid.{laid}
use Rattle.plan.specs.declared.Plan.{Plan}
use Rattle.plan.specs.Plan.{scans_of, slots_of, slots_selected, counts_fault, Counted, Filled}
use Rattle.plan.proofs.Counts.{counts-fine}
use Rattle.plan_check.specs.Check.{check_of}
use Rattle.bits.specs.Bits.{bits, bits_over}
use Rattle.bits.proofs.Over.{over-all}
use Rattle.image.specs.Image.{slot_bits, scan_bits, select_bits, plan_bits, image_of, image_fault, image_after, stored_of}
use Rattle.image.proofs.Below.{counts-below, slots-below, scans-below, selects-below}
use Rattle.image.proofs.Length.{plan-bits, image-bytes, scan-length}
use Rattle.image_write.proofs.Fields.{Drawn, drawn-then}
use Rattle.image_write.proofs.Slots.{slots-most, laid-front}

-- a plan that passed the check has counts within the capacities
pub counted : (p : Plan) → check_of p ≡ Ok tt → Counted p.scan_count p.slot_count p.select_count
unfolding check_of
counted p e = counts-fine _ _ _ (or-fine (counts_fault p.scan_count p.slot_count p.select_count) _ e).0

module _ (p : Plan) (full : Filled p) (few : Counted p.scan_count p.slot_count p.select_count) where
  -- how many bits: those of the slots are few, and all are the plan's
  pub slots-bits : length (laid slot_bits (slots_of p)) ≤ 65 * p.slot_count
  slots-bits = slots-most p.slots p.slot_count (omega (arith, full.many_slots, few.few_slots))

  scans-many : length (scans_of p) ≡ p.scan_count
  scans-many = length-take-le p.scan_count p.scans (omega (arith, full.many_scans, few.few_scans))

  selects-many : length (slots_selected p) ≡ p.select_count
  selects-many = length-take-le p.select_count p.select (omega (arith, full.many_selects, few.few_selects))

  pub length-counted : (n : ℕ) → n ≡ length (laid slot_bits (slots_of p)) → (19 + n + 82 * p.scan_count + 7 * p.select_count + 7) / 8 ≡ length (image_of p)
  length-counted n e = image-bytes p (19 + n + 82 * p.scan_count + 7 * p.select_count) (sym (plan-bits p ∙ rw (← e, scans-many, selects-many) refl))

  -- the counts, the slots, the scans, the selects
  pub plan-written : (b b₁ b₂ b₃ b₄ : List ℕ) (at : ℕ) → b₁ ≡ bits_over b 0 (bits 6 p.scan_count ++ bits 7 p.slot_count ++ bits 6 p.select_count)
      → b₂ ≡ bits_over b₁ 19 (laid slot_bits (slots_of p)) → at ≡ 19 + length (laid slot_bits (slots_of p)) → b₃ ≡ bits_over b₂ at (laid scan_bits (scans_of p))
      → b₄ ≡ bits_over b₃ (at + 82 * p.scan_count) (laid select_bits (slots_selected p)) → b₄ ≡ bits_over b 0 (plan_bits p)
  unfolding plan_bits bits
  plan-written b b₁ b₂ b₃ b₄ at counts slots next scans selects =
      let one : Drawn b 0 (bits 6 p.scan_count ++ bits 7 p.slot_count ++ bits 6 p.select_count) b₁ 19 = record { buffer_is = counts; next_is = refl; below = counts-below _ _ _ } in
      let two : Drawn b₁ 19 (laid slot_bits (slots_of p)) b₂ at = record { buffer_is = slots; next_is = next; below = slots-below (slots_of p) } in
      let long : length (laid scan_bits (scans_of p)) ≡ 82 * p.scan_count = laid-front scan_bits 82 scan-length p.scans p.scan_count (omega (arith, full.many_scans, few.few_scans)) in
      let three : Drawn b₂ at (laid scan_bits (scans_of p)) b₃ (at + 82 * p.scan_count) = record { buffer_is = scans; next_is = rw long refl; below = scans-below (scans_of p) } in
      let four : Drawn b₃ (at + 82 * p.scan_count) (laid select_bits (slots_selected p)) b₄ (at + 82 * p.scan_count + length (laid select_bits (slots_selected p))) =
      record { buffer_is = selects; next_is = refl; below = selects-below (slots_selected p) } in
      (drawn-then (drawn-then (drawn-then one two) three) four).buffer_is

module _ (p : Plan) (l : List ℕ) where
  -- the plan check refuses
  pub check-refuses : (r : Refusal) → Err r ≡ check_of p → (◌≡◌ {A = Result ℕ Refusal} (Err r) (answer (stored_of p (length l)).verdict (stored_of p (length l)).length)) × (l ≡ image_after p l)
  unfolding image_fault stored_of image_after
  check-refuses r e = let g = sym e in (simp g, simp g)

  module _ (fine : check_of p ≡ Ok tt) (n : ℕ) (long : n ≡ length (image_of p)) where
    -- the buffer is short
    pub buffer-short : length l < n
        → (◌≡◌ {A = Result ℕ Refusal} (Err (record { rule = rule_of 64; place = 0 })) (answer (stored_of p (length l)).verdict (stored_of p (length l)).length)) × (l ≡ image_after p l)
    unfolding image_fault stored_of image_after
    buffer-short h =
        let short : length l < length (image_of p) = omega (arith, long) in
        (simp (fine, lt-ltb _ _ short), simp (fine, lt-ltb _ _ short))

    -- it is not, and the image is written
    pub image-written : (l' : List ℕ) → n ≤ length l → l' ≡ bits_over l 0 (plan_bits p)
        → (◌≡◌ {A = Result ℕ Refusal} (Ok n) (answer (stored_of p (length l)).verdict (stored_of p (length l)).length)) × (l' ≡ image_after p l)
    unfolding image_fault stored_of image_after
    image-written l' h e =
        let fits : length (image_of p) ≤ length l = omega (arith, long) in
        let some : 0 < length (plan_bits p) = omega (arith, plan-bits p) in
        let after : l' ≡ image_of p ++ drop (length (image_of p)) l = e ∙ over-all l (plan_bits p) some fits in
        (simp (fine, le-ltb _ _ fits, long), simp (fine, le-ltb _ _ fits) after)
