-- After some selects the slots are those of these.
use Rattle.std.proofs.Common.{◌≡◌, take, map}
use Rattle.capacity.specs.Capacity.{max_selects}
use Rattle.lists.specs.Padded.{padded}
use Rattle.plan.specs.Plan.{zero_slot}
use Rattle.planner.specs.Planning.{slot_of}
use Rattle.planner.proofs.select_slots.Given as goal

abbrev pub invariant-loop-i : goal.invariant-loop-i
invariant-loop-i l = l.select ≡ padded zero_slot max_selects (map slot_of (take l.i l.chosen))
