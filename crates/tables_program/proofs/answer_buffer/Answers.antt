-- `answer_buffer` is as long as it says.
use Rattle.std.proofs.Common.{ℕ, sym}
use lib.ListN.{length-replicate}
use Rattle.tables_answer.specs.Capacity.{answer_bytes}
use Rattle.tables_program.proofs.answer_buffer.Goals as goal

pub returns : goal.returns
returns c = sym (length-replicate {0} {A = ℕ} answer_bytes 0)
