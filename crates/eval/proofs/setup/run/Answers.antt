-- From the state that it begins with, what is to come is every visit.
use Rattle.std.proofs.Common.{◌≡◌, length, replicate, rules, arith}
use Rattle.eval.specs.Words.{scans_in}
use Rattle.visits.specs.Visits.{tables_of}
use Rattle.eval.proofs.Words.{laid-lies, laid-length, table_is}
use Rattle.eval.proofs.Start.{start-ready, start-all}
use Rattle.eval.proofs.setup.run.Goals as goal

pub bounds-nest-0 : goal.bounds-nest-0
bounds-nest-0 c = omega (arith, laid-length c.args.nest.now.laid, c.requires.nonzero.0)

pub get_iter-iter-requires : goal.get_iter-iter-requires
get_iter-iter-requires c = rw c.requires.slots_value (laid-lies c.args.nest.now.laid 0 c.requires.nonzero.0)

-- the iterators are cleared, and scan 0's table is at hand
pub show-requires-clause-ready : goal.show-requires-clause-ready
show-requires-clause-ready c =
    let a = c.args in
    let r = c.requires in
    let ts = tables_of a.nest.now.aevt.now a.nest.now.avet.now a.nest.now.eavt.now in
    let table = table_is (laid-lies c.args.nest.now.laid 0 r.nonzero.0) ts _ c.table.ensures in
    let zeros : c.fill.new.self ≡ replicate (length a.iters.now) 0 = c.fill.ensures.after (λ y e. search rules) in
    start-ready ts (scans_in a.nest.now.words.now) a.nest.now.initial.now a.slots.now _ _ _ _ _ r.slots_value zeros r.nonzero.0 r.nonzero.1 table c.get_iter-iter.ensures

pub returns : goal.returns
returns c =
    let a = c.args in
    let r = c.requires in
    let ts = tables_of a.nest.now.aevt.now a.nest.now.avet.now a.nest.now.eavt.now in
    let table = table_is (laid-lies c.args.nest.now.laid 0 r.nonzero.0) ts _ c.table.ensures in
    let zeros : c.fill.new.self ≡ replicate (length a.iters.now) 0 = c.fill.ensures.after (λ y e. search rules) in
    rw (start-all ts (scans_in a.nest.now.words.now) a.nest.now.initial.now a.slots.now _ _ _ _ _ r.slots_value zeros r.nonzero.0 r.nonzero.1 table c.get_iter-iter.ensures c.args.nest.now.ascend)
    at c.show.ensures.shows
