-- Before each turn the bits of the slots before it are counted.
use Rattle.std.proofs.Common.{◌≡◌, length, take}
use Rattle.lists.specs.Laid.{laid}
use Rattle.image.specs.Image.{slot_bits}
use Rattle.image_write.proofs.count_slots.Given as goal

abbrev pub invariant-loop-slot : goal.invariant-loop-slot
invariant-loop-slot l = l.count ≡ length (laid slot_bits (take l.slot-index l.slots))
