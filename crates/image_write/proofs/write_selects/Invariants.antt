-- Before turn i the first i selects are written.
use Rattle.std.proofs.Common.{◌≡◌, take}
use Rattle.lists.specs.Laid.{laid}
use Rattle.bits.specs.Bits.{bits_over}
use Rattle.image.specs.Image.{select_bits}
use Rattle.image_write.proofs.write_selects.Given as goal

abbrev pub invariant-loop-i : goal.invariant-loop-i
invariant-loop-i l = l.out ≡ bits_over l.initial.out l.start (laid select_bits (take l.i l.select))
