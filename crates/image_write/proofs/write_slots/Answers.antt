-- One slot more.
use Rattle.std.proofs.Common.{◌+◌, refl, arith}
use Rattle.lists.specs.Laid.{laid}
use Rattle.plan.specs.Plan.{variable_slot}
use Rattle.bits.proofs.Over.{over-more}
use Rattle.image.specs.Image.{slot_bits}
use Rattle.image.proofs.Below.{definition-below}
use Rattle.image_write.proofs.Slots.{slots_next, slots-most}
use Rattle.image_write.proofs.write_slots.Goals as goal

pub loop-slot-init : goal.loop-slot-init
unfolding laid
loop-slot-init c = record { next_is = omega arith; buffer_is = refl }

pub write_definition-requires : goal.write_definition-requires
write_definition-requires c =
    let l = c.loop-slot in
    let s = c.args.slots.now in
    omega (arith, c.requires.1, l.invariant.next_is, slots_next s l.slot-index (omega arith), slots-most s (l.slot-index + 1) (omega arith))

pub overflow_add-at : goal.overflow_add-at
overflow_add-at c =
    let l = c.loop-slot in
    let s = c.args.slots.now in
    record { fits = omega (arith, c.requires.1, l.invariant.next_is, c.count_slot-at.ensures, slots_next s l.slot-index (omega arith), slots-most s (l.slot-index + 1) (omega arith)) }

pub loop-slot-preserved : goal.loop-slot-preserved
loop-slot-preserved c =
    let l = c.loop-slot in
    let s = c.args.slots.now in
    record {
      next_is = omega (arith, l.invariant.next_is, c.count_slot-at.ensures, slots_next s l.slot-index (omega arith));
      buffer_is =
          over-more slot_bits (λ r. definition-below r.definition) c.args.out.now l.out _ c.args.start l.at s l.slot-index variable_slot (omega arith)
          l.invariant.buffer_is l.invariant.next_is c.write_definition.ensures;
    }
