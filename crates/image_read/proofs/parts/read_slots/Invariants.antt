-- Before turn i the first i are read.
use Rattle.capacity.specs.Capacity.{max_slots}
use Rattle.plan.specs.Plan.{variable_slot}
use Rattle.image.specs.Read.{slot as Read·slot}
use Rattle.image_read.proofs.Gathered.{Gathered}
use Rattle.image_read.proofs.parts.read_slots.Given as goal

abbrev pub invariant-loop-i : goal.invariant-loop-i
invariant-loop-i l = Gathered Read·slot variable_slot max_slots l.count l.bytes l.fn.from l.slots l.i l.at
