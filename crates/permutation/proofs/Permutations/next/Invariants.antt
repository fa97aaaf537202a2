-- Whatever position the loop has come to, the step from there is the step from the start.
use Rattle.std.proofs.Common.{◌≡◌, ◌-◌, ◌≤◌}
use Rattle.capacity.specs.Capacity.{max_elements}
use Rattle.permutation.specs.Swaps.{next_swap_of}
use Rattle.permutation.proofs.Permutations.next.Given as goal

abbrev pub invariant-loop-self : goal.invariant-loop-self
invariant-loop-self l = record {
  few : l.self.n ≤ max_elements;
  step : next_swap_of l.fn.self ≡ next_swap_of l.self;
}

abbrev pub decreases-loop-self : goal.decreases-loop-self
decreases-loop-self l = l.self.n - l.self.i
