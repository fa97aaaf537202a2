-- After some statements the slots are those of these.
use Rattle.std.proofs.Common.{◌≡◌, ◌+◌, take}
use Rattle.capacity.specs.Capacity.{max_slots}
use Rattle.lists.specs.Padded.{padded}
use Rattle.query_check.specs.Refusals.{constants}
use Rattle.plan.specs.Plan.{variable_slot}
use Rattle.planner.specs.Planning.{slots_for}
use Rattle.planner.proofs.initialize_slots.Given as goal

abbrev pub invariant-loop-statement : goal.invariant-loop-statement
invariant-loop-statement l =
    let so_far = take l.statement-index l.statements in
    (l.slot_count ≡ l.variables + constants so_far) × (l.slots ≡ padded variable_slot max_slots (slots_for l.variables so_far))
