-- The numbers that were read lie within their buffer.
use Rattle.std.proofs.Common.{arith, sym, length-take-le}
use Rattle.ask_answer.proofs.Reading.{count-within}
use Rattle.ask.proofs.main.Goals as goal

pub slice_bounds-words-end : goal.slice_bounds-words-end
slice_bounds-words-end c = omega (arith, count-within c.read_question-count.ensures)

pub slice_bounds-put_answer-end : goal.slice_bounds-put_answer-end
slice_bounds-put_answer-end c = sym (length-take-le _ _ (omega (arith, count-within c.read_question-count.ensures)))
