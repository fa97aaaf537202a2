-- Before turn j the first j selected slots are in the buffer.
use Rattle.std.proofs.Common.{◌≡◌}
use Rattle.std.proofs.Math.Seq.{paste}
use Rattle.eval.specs.Next.{selected_by}
use Rattle.eval.proofs.rows.put_row.Given as goal

abbrev pub invariant-loop-j : goal.invariant-loop-j
invariant-loop-j l = l.rows ≡ paste l.initial.rows l.at (selected_by l.selects l.slots) l.j
