-- After some numbers as many stand there.
use native.Mathlib.Omega.{arith}
use Rattle.search.proofs.Filled.{numbers-start, numbers_more}
use Rattle.search.proofs.first_order.Goals as goal

pub loop-i-init : goal.loop-i-init
loop-i-init c = numbers-start

pub loop-i-preserved : goal.loop-i-preserved
loop-i-preserved c = rw c.loop-i.invariant (numbers_more c.loop-i.i (omega (arith, c.requires, c.loop-i-test.true)))
