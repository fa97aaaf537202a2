-- At each turn what is left to write, behind the bits that are held, gives what was to be written at first.
use Rattle.std.proofs.Common.{◌≡◌, ◌^◌, ◌<◌, ◌++◌}
use lib.Seq.{sets}
use Rattle.bits.specs.Bits.{bits, packed}
use Rattle.bits.proofs.write_behind.Given as goal

abbrev pub invariant-loop-i : goal.invariant-loop-i
invariant-loop-i l =
    (l.count < 8) × (l.held < 2 ^ l.count)
    × (sets l.out l.i (packed (bits l.count l.held ++ bits l.left l.value)) ≡ sets l.fn.out l.start (packed (bits l.first_count l.first ++ bits l.width l.value)))
