-- One select more.
use Rattle.std.proofs.Common.{◌≡◌, ◌+◌, ◌*◌, length, take, refl, arith}
use Rattle.lists.specs.Laid.{laid}
use Rattle.plan.specs.Plan.{zero_slot}
use Rattle.bits.proofs.Laws.{bits-length, bits_below}
use Rattle.bits.proofs.Over.{over-more}
use Rattle.image.specs.Image.{select_bits}
use Rattle.image_write.proofs.Slots.{laid-front}
use Rattle.image_write.proofs.write_selects.Goals as goal

pub loop-i-init : goal.loop-i-init
unfolding laid
loop-i-init c = refl

pub loop-i-preserved : goal.loop-i-preserved
loop-i-preserved c =
    let i = c.loop-i.i in
    let s = c.args.select.now in
    let start = c.args.start in
    let place : start + 7 * i ≡ start + length (laid select_bits (take i s)) = omega (arith, laid-front select_bits 7 (λ k. bits-length 7 k.0) s i (omega arith)) in
    over-more select_bits (λ k. bits_below 7 k.0) c.args.out.now c.loop-i.out _ start (start + 7 * i) s i zero_slot (omega arith) c.loop-i.invariant place
    (rw c.from.ensures at c.write_bits.ensures)
