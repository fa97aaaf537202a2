-- `text_buffer` is as long as it says.
use Rattle.std.proofs.Common.{ℕ, sym}
use lib.ListN.{length-replicate}
use Rattle.ask_answer.specs.Capacity.{text_bytes}
use Rattle.ask.proofs.text_buffer.Goals as goal

pub returns : goal.returns
returns c = sym (length-replicate {0} {A = ℕ} text_bytes 0)
