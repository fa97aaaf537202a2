-- One scan more.
use Rattle.std.proofs.Common.{arith}
use Rattle.text_pieces.proofs.Wrote.{wrote_none, wrote_then}
use Rattle.plan_text.specs.Text.{scan_lines}
use Rattle.plan_text.proofs.Lines.{scans-next}
use Rattle.plan_text.proofs.write_scans.Goals as goal

pub loop-scan-init : goal.loop-scan-init
unfolding scan_lines
loop-scan-init c = wrote_none (omega arith) (omega arith)

pub loop-scan-preserved : goal.loop-scan-preserved
loop-scan-preserved c =
    rw (scans-next _ _ _ c.args.scans.now c.loop-scan.scan-index (omega arith)) (wrote_then c.loop-scan.invariant c.write_scan.ensures)
