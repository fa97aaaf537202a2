-- Piece by piece.
use Rattle.text_pieces.proofs.Wrote.{wrote_then}
use Rattle.text_scan.specs.Line.{flow_line}
use Rattle.text_scan.proofs.SlotNames.write_in_out.Goals as goal

pub returns : goal.returns
unfolding flow_line
returns c =
    rw c.slots.ensures at (wrote_then (wrote_then (wrote_then (wrote_then (wrote_then (wrote_then c.write.ensures c.write_slot.ensures) c.write_scanned.ensures) c.write-2.ensures) c.write_first_label.ensures) c.write_slot-2.ensures) c.write-3.ensures)
