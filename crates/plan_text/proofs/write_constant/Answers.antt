-- Piece by piece.
use Rattle.text_pieces.proofs.Wrote.{wrote_then}
use Rattle.plan_text.specs.Text.{constant_line}
use Rattle.plan_text.proofs.write_constant.Goals as goal

pub returns : goal.returns
unfolding constant_line
returns c =
    wrote_then (wrote_then (wrote_then (wrote_then c.write.ensures c.write_decimal.ensures) c.write-2.ensures) c.write_decimal-2.ensures) c.write-3.ensures
