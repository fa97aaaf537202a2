-- What is left from row i of aevt on gives the answer of the whole.
use Rattle.std.proofs.Common.{◌≡◌, ◌-◌}
use mathlib.Core.List.{map}
use Rattle.lists.specs.Span.{span}
use Rattle.tables.specs.Rows.{count, row, rows_of}
use Rattle.tables.specs.Check.{missing_fault}
use Rattle.tables.proofs.check_missing.Given as goal

abbrev pub invariant-loop-i : goal.invariant-loop-i
invariant-loop-i l =
    missing_fault (rows_of l.avet) (rows_of l.eavt) (rows_of l.aevt) 0 ≡
    missing_fault (rows_of l.avet) (rows_of l.eavt) (map (row l.aevt) (span l.i (count l.aevt - l.i))) l.i
