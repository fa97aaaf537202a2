-- Part by part.
use Rattle.text_pieces.proofs.Written.{written_then}
use Rattle.tables_answer.specs.Answer.{table_parts}
use Rattle.tables_answer.proofs.write_tables.Goals as goal

pub returns-clause-written : goal.returns-clause-written
unfolding table_parts
returns-clause-written c =
    written_then (written_then c.write_part-at.ensures.written c.write_part-at-2.ensures.written) c.write_part.ensures.written
