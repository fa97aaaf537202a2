-- Before turn i the first i scans are written.
use Rattle.std.proofs.Common.{◌≡◌, take}
use Rattle.lists.specs.Laid.{laid}
use Rattle.bits.specs.Bits.{bits_over}
use Rattle.image.specs.Image.{scan_bits}
use Rattle.image_write.proofs.write_scans.Given as goal

abbrev pub invariant-loop-i_scan : goal.invariant-loop-i_scan
invariant-loop-i_scan l = l.out ≡ bits_over l.initial.out l.start (laid scan_bits (take l.i_scan l.scans))
