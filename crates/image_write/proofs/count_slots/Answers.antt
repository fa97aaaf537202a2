-- One slot more.
use Rattle.std.proofs.Common.{◌+◌, refl, arith}
use Rattle.lists.specs.Laid.{laid}
use Rattle.image_write.proofs.Slots.{slots_next, slots-most}
use Rattle.image_write.proofs.count_slots.Goals as goal

pub loop-slot-init : goal.loop-slot-init
unfolding laid
loop-slot-init c = refl

pub overflow_add-count : goal.overflow_add-count
overflow_add-count c =
    let l = c.loop-slot in
    let s = c.args.slots.now in
    record { fits = omega (arith, l.invariant, c.count_slot-count.ensures, slots_next s l.slot-index (omega arith), slots-most s (l.slot-index + 1) (omega arith)) }

pub loop-slot-preserved : goal.loop-slot-preserved
loop-slot-preserved c =
    let l = c.loop-slot in
    omega (arith, l.invariant, c.count_slot-count.ensures, slots_next c.args.slots.now l.slot-index (omega arith))
