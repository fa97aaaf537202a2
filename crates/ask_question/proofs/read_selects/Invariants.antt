-- Before turn i the first i selects are read.
use Rattle.std.proofs.Common.{◌≡◌, get_or}
use Rattle.capacity.specs.Capacity.{max_selects}
use Rattle.lists.specs.Padded.{padded}
use Rattle.lists.specs.Tabled.{tabled}
use Rattle.query.specs.Query.{zero_var}
use Rattle.ask_question.specs.Asked.{asked_var}
use Rattle.ask_question.proofs.read_selects.Given as goal

abbrev pub invariant-loop-i : goal.invariant-loop-i
invariant-loop-i l = l.items ≡ padded zero_var max_selects (tabled (λ j. asked_var (get_or l.words j 0)) l.i)
