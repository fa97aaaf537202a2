-- Before turn i what is left from statement i on gives the answer of the whole.
use Rattle.std.proofs.Common.{◌≡◌, ◌*◌, drop}
use Rattle.ask_question.specs.Parts.{are_kinds}
use Rattle.ask_question.proofs.are_kinds.Given as goal

abbrev pub invariant-loop-i : goal.invariant-loop-i
invariant-loop-i l = are_kinds l.words ≡ are_kinds (drop (l.i * 4) l.words)
