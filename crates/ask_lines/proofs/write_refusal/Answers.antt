-- Piece by piece.
use Rattle.text_pieces.proofs.Wrote.{wrote_then}
use Rattle.ask_lines.specs.Lines.{refusal_line}
use Rattle.ask_lines.proofs.write_refusal.Goals as goal

pub returns : goal.returns
unfolding refusal_line
returns c =
    rw c.from.ensures at (wrote_then (wrote_then (wrote_then (wrote_then c.write.ensures c.write_decimal.ensures) c.write-2.ensures) c.write_decimal-2.ensures) c.write-3.ensures)
