-- The lines of the words so far are written, and those of the others are still to come.
use Rattle.ask_lines.proofs.Rows.{SoFar}
use Rattle.ask_lines.proofs.write_rows.Given as goal

abbrev pub invariant-loop-word : goal.invariant-loop-word
invariant-loop-word l = SoFar l.words l.width l.fn.pen l.pen l.left l.word-index
