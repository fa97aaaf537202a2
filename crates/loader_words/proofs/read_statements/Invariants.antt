-- Before turn i the first i are read.
use Rattle.std.proofs.Common.{◌≡◌, length, take}
use Rattle.capacity.specs.Capacity.{max_statements}
use Rattle.lists.specs.Tabled.{tabled}
use Rattle.loader_words.specs.Words.{statement_at}
use Rattle.loader_words.proofs.read_statements.Given as goal

abbrev pub invariant-loop-i : goal.invariant-loop-i
invariant-loop-i l = (length l.statements ≡ max_statements) × (take l.i l.statements ≡ tabled (statement_at l.words) l.i)
