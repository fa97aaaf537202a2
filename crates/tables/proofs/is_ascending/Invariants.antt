-- The rows from the one before i on ascend exactly if all do.
use Rattle.std.proofs.Common.{◌≡◌, ◌-◌}
use mathlib.Core.List.{map}
use Rattle.lists.specs.Span.{span}
use Rattle.tables.specs.Rows.{count, row, rows_of, ascending}
use Rattle.tables.proofs.is_ascending.Given as goal

abbrev pub invariant-loop-i : goal.invariant-loop-i
invariant-loop-i l = ascending (rows_of l.table) ≡ ascending (map (row l.table) (span (l.i - 1) (count l.table - (l.i - 1))))
