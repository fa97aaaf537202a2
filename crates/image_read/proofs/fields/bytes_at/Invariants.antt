-- Before turn i the number is that of the first i bytes.
use Rattle.std.proofs.Common.{◌≡◌, ◌*◌}
use Rattle.bits.specs.Bits.{number}
use Rattle.image_read.proofs.Window.{bits_at}
use Rattle.image_read.proofs.fields.bytes_at.Given as goal

abbrev pub invariant-loop-i : goal.invariant-loop-i
invariant-loop-i l = l.value ≡ number (bits_at l.bytes (8 * l.from) (8 * l.i))
