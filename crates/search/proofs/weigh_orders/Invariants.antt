-- The orders still to come give the answer of the whole.
use Rattle.search.proofs.Round.{Round, orders_left}
use Rattle.search.proofs.weigh_orders.Given as goal

abbrev pub invariant-loop-swap : goal.invariant-loop-swap
invariant-loop-swap l = Round l.query l.best l.order l.swaps

abbrev pub decreases-loop-swap : goal.decreases-loop-swap
decreases-loop-swap l = orders_left l.query l.swaps
