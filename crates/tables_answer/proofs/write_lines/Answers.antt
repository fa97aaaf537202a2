-- The count, a line feed and the rows, one after the other.
use Rattle.text_pieces.proofs.Wrote.{wrote_then}
use Rattle.tables_answer.specs.Answer.{table_part}
use Rattle.tables_answer.proofs.write_lines.Goals as goal

pub returns : goal.returns
unfolding table_part
returns c = wrote_then (wrote_then c.write_decimal.ensures c.write.ensures) c.write_rows.ensures
