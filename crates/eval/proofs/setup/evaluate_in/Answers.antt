-- What is written out is the plan, so that the rows that come are the plan's.
use Rattle.eval.proofs.Written.{layout-laid, layout-scans, layout-iters, layout-named, layout-selects, layout-shows}
use Rattle.eval.proofs.setup.evaluate_in.Goals as goal

pub invariant_of-nest-clause-laid : goal.invariant_of-nest-clause-laid
invariant_of-nest-clause-laid c = let w = c.write_plan.ensures in layout-laid c.requires.evaluable _ _ _ w.words_are w.initial_are w.selects_are

pub run-requires-clause-nonzero : goal.run-requires-clause-nonzero
run-requires-clause-nonzero c =
    let w = c.write_plan.ensures in
    (layout-scans c.requires.evaluable _ _ _ w.words_are w.slots_are w.selects_are, layout-iters c.requires.evaluable _ _ _ w.words_are w.slots_are w.selects_are _ c.requires.roomy.iters_room)

pub run-requires-clause-named : goal.run-requires-clause-named
run-requires-clause-named c =
    let w = c.write_plan.ensures in
    (layout-named c.requires.evaluable _ _ _ w.words_are w.slots_are w.selects_are, layout-selects c.requires.evaluable _ _ _ w.words_are w.slots_are w.selects_are)

pub returns : goal.returns
returns c =
    let w = c.write_plan.ensures in
    layout-shows c.requires.evaluable _ _ _ w.words_are w.initial_are w.selects_are c.args.from _ _ _ _ c.run.ensures
