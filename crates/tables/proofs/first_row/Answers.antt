use mathlib.Core.Path.{sym}
use native.Mathlib.Omega.{arith}
use Rattle.tables.proofs.Search.{before_falls, between-up, between-down}
use Rattle.tables.proofs.first_row.Goals as goal

pub loop-low-preserved-then-is_after : goal.loop-low-preserved-then-is_after
loop-low-preserved-then-is_after c =
    between-up (λ asc j k _. before_falls _ asc _ j k) c.loop-low.invariant _ (omega arith) (omega arith) (sym c.if-is_after.ensures)

pub loop-low-preserved : goal.loop-low-preserved
loop-low-preserved c =
    between-down (λ asc j k _. before_falls _ asc _ j k) c.loop-low.invariant _ (omega arith) (omega arith) (sym c.if-is_after.ensures)
