-- What is left from `at` on, after the digits so far, says what is left from the start on.
use Rattle.std.proofs.Common.{◌≡◌, drop}
use Rattle.ask_numbers.specs.Words.{said_after}
use Rattle.ask_numbers.proofs.digits_at.Given as goal

abbrev pub invariant-loop-at : goal.invariant-loop-at
invariant-loop-at l = said_after (drop l.start l.text) l.first ≡ said_after (drop l.at l.text) l.value
