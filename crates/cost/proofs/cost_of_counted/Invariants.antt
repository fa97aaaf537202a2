-- What is left to weigh is what stands before the scans gone through; the cost so far is the weight of these, and none has passed.
use Rattle.std.proofs.Common.{◌≡◌, List, ◌++◌, length, Ok}
use Rattle.plan.specs.declared.Scan.{Scan}
use Rattle.cost.specs.Cost.{weight, weight_fault}
use Rattle.cost.proofs.cost_of_counted.Given as goal

abbrev pub invariant-loop-scan : goal.invariant-loop-scan
invariant-loop-scan l =
    (after : List Scan) × (l.scans ≡ l.left ++ after) × (weight l.left after ≡ l.cost) × (weight_fault l.left after (length l.left) ≡ Ok tt)

abbrev pub decreases-loop-scan : goal.decreases-loop-scan
decreases-loop-scan l = length l.left
