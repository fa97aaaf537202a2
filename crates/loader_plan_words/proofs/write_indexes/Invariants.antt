-- What is left from scan i on gives the words of the whole.
use Rattle.std.proofs.Common.{◌≡◌, drop}
use Rattle.loader_plan_words.specs.Write.{with_indexes}
use Rattle.loader_plan_words.proofs.write_indexes.Given as goal

abbrev pub invariant-loop-i : goal.invariant-loop-i
invariant-loop-i l = with_indexes l.scan-items 0 l.initial.words ≡ with_indexes (drop l.i l.scan-items) l.i l.words
