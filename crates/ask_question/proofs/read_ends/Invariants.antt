-- Before turn i the first i ends are written.
use Rattle.std.proofs.Common.{◌≡◌, take}
use Rattle.lists.specs.Tabled.{tabled}
use Rattle.ask_question.specs.Asked.{end_of}
use Rattle.ask_question.proofs.read_ends.Given as goal

abbrev pub invariant-loop-i : goal.invariant-loop-i
invariant-loop-i l = take l.i l.ends ≡ tabled (end_of l.words) l.i
