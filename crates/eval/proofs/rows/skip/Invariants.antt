-- Before each turn so many visits are passed over.
use Rattle.std.proofs.Common.{◌-◌}
use Rattle.eval.specs.Words.{scans_in}
use Rattle.visits.specs.Visits.{tables_of}
use Rattle.eval.proofs.Passing.{Skipping}
use Rattle.eval.proofs.rows.skip.Given as goal

abbrev pub invariant-loop : goal.invariant-loop
invariant-loop l =
    Skipping (tables_of l.nest.aevt.now l.nest.avet.now l.nest.eavt.now) (scans_in l.nest.words.now) l.nest.initial.now l.fn.iters l.fn.slots l.count l.iters l.slots (l.count - l.counter)
