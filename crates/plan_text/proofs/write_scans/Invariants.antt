-- Before each turn the lines of the scans before it are written.
use Rattle.std.proofs.Common.{length, take}
use Rattle.text_pieces.specs.Wrote.{Wrote}
use Rattle.plan_text.specs.Text.{scan_lines}
use Rattle.plan_text.proofs.write_scans.Given as goal

abbrev pub invariant-loop-scan : goal.invariant-loop-scan
invariant-loop-scan l =
    Wrote (scan_lines (take (length l.names.ends.now) l.names.slots.now) l.names.names.now l.names.ends.now (take l.scan-index l.scans)) l.initial.pen l.pen
