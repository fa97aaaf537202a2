-- After some numbers as many stand there.
use Rattle.std.proofs.Common.{◌≡◌}
use Rattle.capacity.specs.Capacity.{max_searched}
use Rattle.lists.specs.Padded.{padded}
use Rattle.orders.specs.Lists.{up_to}
use Rattle.search.proofs.first_order.Given as goal

abbrev pub invariant-loop-i : goal.invariant-loop-i
invariant-loop-i l = l.order ≡ padded 0 max_searched (up_to l.i)
