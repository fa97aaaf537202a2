-- Piece by piece.
use Rattle.text_pieces.proofs.Wrote.{wrote_then}
use Rattle.text_scan.specs.Line.{slot_text}
use Rattle.text_scan.proofs.SlotNames.write_slot.Goals as goal

pub returns : goal.returns
unfolding slot_text
returns c =
    rw c.from.ensures at (wrote_then (wrote_then c.write_name.ensures c.write.ensures) c.write_decimal.ensures)
