-- The scan number falls at the call; the visits outside that are still to come fall in the loop.
use Rattle.std.proofs.Common.{length}
use Rattle.visits.specs.Visits.{tables_of}
use Rattle.visits.specs.Pending.{pending}
use Rattle.eval.specs.Words.{scans_in}
use Rattle.eval.proofs.Turn.{Turn}
use Rattle.eval.proofs.walk.Nest.+increment.Given as goal

abbrev pub decreases-increment : goal.decreases-increment
decreases-increment l = l.i

abbrev pub invariant-loop-iters : goal.invariant-loop-iters
invariant-loop-iters l = Turn (tables_of l.self.aevt.now l.self.avet.now l.self.eavt.now) (scans_in l.self.words.now) l.self.initial.now l.fn.iters l.fn.slots l.i l.iters l.slots

abbrev pub decreases-loop-iters : goal.decreases-loop-iters
decreases-loop-iters l = length (pending (tables_of l.self.aevt.now l.self.avet.now l.self.eavt.now) (scans_in l.self.words.now) l.self.initial.now l.iters l.i)
