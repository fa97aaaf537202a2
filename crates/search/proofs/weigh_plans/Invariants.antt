-- What is still to be weighed gives the answer of the whole.
use Rattle.search.proofs.Through.{plans_left, Through}
use Rattle.search.proofs.weigh_plans.Given as goal

abbrev pub invariant-loop-scans : goal.invariant-loop-scans
invariant-loop-scans l = Through l.order l.count l.fn.best l.fn.scans l.best l.scans

abbrev pub decreases-loop-scans : goal.decreases-loop-scans
decreases-loop-scans l = plans_left l.count l.fn.scans l.scans
