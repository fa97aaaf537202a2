-- What is left from `at` on says what is left from the start on.
use Rattle.std.proofs.Common.{◌≡◌, drop}
use Rattle.ask_numbers.specs.Words.{said}
use Rattle.ask_numbers.proofs.skip.Given as goal

abbrev pub invariant-loop-at : goal.invariant-loop-at
invariant-loop-at l = said (drop l.start l.text) ≡ said (drop l.at l.text)
