-- Before turn i the first i are read.
use Rattle.capacity.specs.Capacity.{max_scans}
use Rattle.plan.specs.Plan.{zero_scan}
use Rattle.image.specs.Read.{scan as Read·scan}
use Rattle.image_read.proofs.Gathered.{Gathered}
use Rattle.image_read.proofs.parts.read_scans.Given as goal

abbrev pub invariant-loop-i : goal.invariant-loop-i
invariant-loop-i l = Gathered Read·scan zero_scan max_scans l.count l.bytes l.fn.from l.scans l.i l.at
