-- A text that is too long is found by the check, and here is what is read of any other.
use native.Mathlib.Omega.{arith}
use Rattle.ask_answer.proofs.Reading.{reads}
use Rattle.ask_answer.proofs.read_question.Goals as goal

pub returns : goal.returns
returns c = rw c.unwrap_or.ensures (reads _ _ (omega arith) _ _ c.read_words.ensures.value c.read_words.ensures.words_after)
