-- By the number of inputs, the first row's words go where the scan writes.
use Rattle.std.proofs.Common.{arith}
use Rattle.eval.proofs.Scans.{filled_none, filled-one}
use Rattle.eval.proofs.walk.fill_slots.Goals as goal

pub returns-in-0 : goal.returns-in-0
returns-in-0 c = filled_none c.requires.lies_at _ _ 0 c.requires.rows_nonzero c.in-0.is

pub returns-in-1 : goal.returns-in-1
returns-in-1 c = filled-one c.requires.lies_at _ _ 0 c.requires.rows_nonzero (λ e. omega arith) (λ e. omega arith)
