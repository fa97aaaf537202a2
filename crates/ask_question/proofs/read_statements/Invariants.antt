-- Before turn i the first i statements are read.
use Rattle.std.proofs.Common.{◌≡◌}
use Rattle.capacity.specs.Capacity.{max_statements}
use Rattle.lists.specs.Padded.{padded}
use Rattle.lists.specs.Tabled.{tabled}
use Rattle.query.specs.Query.{zero_statement}
use Rattle.ask_question.specs.Asked.{asked_statement}
use Rattle.ask_question.proofs.read_statements.Given as goal

abbrev pub invariant-loop-i : goal.invariant-loop-i
invariant-loop-i l = l.items ≡ padded zero_statement max_statements (tabled (asked_statement l.words) l.i)
