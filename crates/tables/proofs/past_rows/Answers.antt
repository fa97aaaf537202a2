use mathlib.Core.Path.{sym}
use native.Mathlib.Omega.{arith}
use Rattle.tables.proofs.Search.{past-falls, between-up, between-down}
use Rattle.tables.proofs.past_rows.Goals as goal

pub loop-step-preserved-then-begins : goal.loop-step-preserved-then-begins
loop-step-preserved-then-begins c =
    let l = c.loop-step.invariant in
    (omega (arith, l.0), omega (arith, l.1), between-up (past-falls c.requires) l.2 _ (omega (arith, l.0)) (omega (arith, l.1)) (sym c.if-begins.ensures))

pub loop-step-preserved : goal.loop-step-preserved
loop-step-preserved c =
    let l = c.loop-step.invariant in
    (l.0, omega (arith, l.0), between-down (past-falls c.requires) l.2 _ (omega (arith, l.0)) (omega (arith, l.1)) (sym c.if-begins.ensures))

pub loop-low-preserved-then-begins-2 : goal.loop-low-preserved-then-begins-2
loop-low-preserved-then-begins-2 c =
    between-up (past-falls c.requires) c.loop-low.invariant _ (omega arith) (omega arith) (sym c.if-begins-2.ensures)

pub loop-low-preserved : goal.loop-low-preserved
loop-low-preserved c =
    between-down (past-falls c.requires) c.loop-low.invariant _ (omega arith) (omega arith) (sym c.if-begins-2.ensures)
