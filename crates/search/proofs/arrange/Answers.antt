-- The statement's number is below the count.
use native.Mathlib.Omega.{arith}
use Rattle.search.proofs.Filled.{filled-start, order-long, number-below, filled_more}
use Rattle.search.proofs.arrange.Goals as goal

pub loop-i-init : goal.loop-i-init
loop-i-init c = filled-start _ c.args.query.now.where_statements.items _ c.requires.few c.requires.order

pub offset_bounds-query-number : goal.offset_bounds-query-number
offset_bounds-query-number c =
    record { fits = omega (arith, number-below _ c.args.query.now.where_statements.items _ c.requires.few c.requires.order c.loop-i.i c.loop-i-test.true, c.requires.few) }

pub bounds-query-number : goal.bounds-query-number
bounds-query-number c =
    omega (arith, number-below _ c.args.query.now.where_statements.items _ c.requires.few c.requires.order c.loop-i.i c.loop-i-test.true, c.requires.few)

pub loop-i-preserved : goal.loop-i-preserved
loop-i-preserved c =
    rw c.loop-i.invariant (filled_more _ c.args.query.now.where_statements.items _ c.requires.few c.requires.order c.loop-i.i c.loop-i-test.true)

pub offset_bounds-items-i : goal.offset_bounds-items-i
offset_bounds-items-i c =
    record { fits = omega (arith, order-long _ c.args.query.now.where_statements.items _ c.requires.few c.requires.order, c.requires.few) }

pub bounds-items-i : goal.bounds-items-i
bounds-items-i c =
    omega (arith, order-long _ c.args.query.now.where_statements.items _ c.requires.few c.requires.order, c.requires.few)
