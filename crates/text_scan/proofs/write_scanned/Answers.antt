-- Piece by piece.
use Rattle.text_pieces.proofs.Wrote.{wrote_then}
use Rattle.text_scan.proofs.write_scanned.Goals as goal

pub returns : goal.returns
returns c = wrote_then (wrote_then c.write_index.ensures c.write.ensures) c.write_decimal.ensures
