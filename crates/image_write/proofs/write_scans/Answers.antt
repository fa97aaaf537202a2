-- One scan more.
use Rattle.std.proofs.Common.{◌≡◌, ◌+◌, ◌*◌, length, take, refl, arith}
use Rattle.lists.specs.Laid.{laid}
use Rattle.plan.specs.Plan.{zero_scan}
use Rattle.bits.proofs.Over.{over-more}
use Rattle.image.specs.Image.{scan_bits}
use Rattle.image.proofs.Below.{scan-below}
use Rattle.image.proofs.Length.{scan-length}
use Rattle.image_write.proofs.Slots.{laid-front}
use Rattle.image_write.proofs.write_scans.Goals as goal

pub loop-i_scan-init : goal.loop-i_scan-init
unfolding laid
loop-i_scan-init c = refl

pub loop-i_scan-preserved : goal.loop-i_scan-preserved
loop-i_scan-preserved c =
    let i = c.loop-i_scan.i_scan in
    let s = c.args.scans.now in
    let start = c.args.start in
    let place : start + 82 * i ≡ start + length (laid scan_bits (take i s)) = omega (arith, laid-front scan_bits 82 scan-length s i (omega arith)) in
    over-more scan_bits scan-below c.args.out.now c.loop-i_scan.out _ start (start + 82 * i) s i zero_scan (omega arith) c.loop-i_scan.invariant place c.write_scan.ensures
