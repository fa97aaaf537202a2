-- Piece by piece.
use Rattle.text_pieces.proofs.Wrote.{wrote_then}
use Rattle.ask_lines.specs.Lines.{cost_line}
use Rattle.ask_lines.proofs.write_cost.Goals as goal

pub returns : goal.returns
unfolding cost_line
returns c = wrote_then (wrote_then c.write.ensures c.write_decimal.ensures) c.write-2.ensures
