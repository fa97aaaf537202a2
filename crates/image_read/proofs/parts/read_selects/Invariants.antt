-- Before turn i the first i are read.
use Rattle.capacity.specs.Capacity.{max_selects}
use Rattle.plan.specs.Plan.{zero_slot}
use Rattle.image.specs.Read.{select as Read·select}
use Rattle.image_read.proofs.Gathered.{Gathered}
use Rattle.image_read.proofs.parts.read_selects.Given as goal

abbrev pub invariant-loop-i : goal.invariant-loop-i
invariant-loop-i l = Gathered Read·select zero_slot max_selects l.count l.bytes l.fn.from l.select l.i l.at
