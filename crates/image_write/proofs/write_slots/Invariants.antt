-- Before each turn the slots before it are written, and `at` is the bit behind them.
use Rattle.std.proofs.Common.{◌≡◌, ◌+◌, length, take}
use Rattle.lists.specs.Laid.{laid}
use Rattle.bits.specs.Bits.{bits_over}
use Rattle.image.specs.Image.{slot_bits}
use Rattle.image_write.proofs.write_slots.Given as goal

abbrev pub invariant-loop-slot : goal.invariant-loop-slot
invariant-loop-slot l = record {
  next_is : l.at ≡ l.start + length (laid slot_bits (take l.slot-index l.slots));
  buffer_is : l.out ≡ bits_over l.initial.out l.start (laid slot_bits (take l.slot-index l.slots));
}
