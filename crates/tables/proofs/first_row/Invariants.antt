-- The answer stays between low and high.
use Rattle.std.proofs.Common.{◌-◌}
use Rattle.tables.specs.Sought.{sought}
use Rattle.tables.proofs.Search.{Firsts}
use Rattle.tables.proofs.first_row.Given as goal

abbrev pub invariant-loop-low : goal.invariant-loop-low
invariant-loop-low l = Firsts l.table (sought l.key) l.low l.high

abbrev pub decreases-loop-low : goal.decreases-loop-low
decreases-loop-low l = l.high - l.low
