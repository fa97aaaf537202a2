-- Before turn `count` so many rows are in the buffer.
use Rattle.eval.specs.Words.{scans_in}
use Rattle.eval.specs.Next.{remaining}
use Rattle.visits.specs.Visits.{tables_of}
use Rattle.eval.proofs.Fill.{Filling}
use Rattle.eval.proofs.rows.show.Given as goal

abbrev pub invariant-loop-count : goal.invariant-loop-count
invariant-loop-count l =
    let ts = tables_of l.nest.aevt.now l.nest.avet.now l.nest.eavt.now in
    let ss = scans_in l.nest.words.now in
    Filling ts ss l.nest.initial.now l.selects (remaining ts ss l.nest.initial.now l.initial.iters) l.fn.rows l.initial.iters l.initial.slots l.iters l.slots l.width l.room l.rows l.count
