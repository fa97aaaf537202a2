-- The answer stays between low and high, in steps and then by halves. A step is at most what is left of the table, so twice a step is a number.
use Rattle.std.proofs.Common.{◌-◌, ◌≤◌}
use Rattle.tables.specs.Sought.{sought}
use Rattle.tables.proofs.Search.{Pasts}
use Rattle.tables.proofs.past_rows.Given as goal

abbrev pub invariant-loop-step : goal.invariant-loop-step
invariant-loop-step l = (1 ≤ l.step) × (l.low ≤ l.high) × Pasts l.table (sought l.key) l.from l.low l.high

abbrev pub decreases-loop-step : goal.decreases-loop-step
decreases-loop-step l = l.high - l.low

abbrev pub invariant-loop-low : goal.invariant-loop-low
invariant-loop-low l = Pasts l.table (sought l.key) l.from l.low l.high

abbrev pub decreases-loop-low : goal.decreases-loop-low
decreases-loop-low l = l.high - l.low
