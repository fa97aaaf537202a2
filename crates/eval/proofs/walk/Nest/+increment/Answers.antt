-- Each turn of the loop is a law of Turn or of Again.
use Rattle.std.proofs.Common.{arith}
use Rattle.visits.specs.Visits.{tables_of}
use Rattle.eval.proofs.Words.{laid-lies, table_is}
use Rattle.eval.proofs.Turn.{left_in, left-first, turn-take, turn_end, turn-no}
use Rattle.eval.proofs.Again.{turn-again, turn-less}
use Rattle.eval.proofs.walk.Nest.+increment.Goals as goal

pub offset_bounds-self-i : goal.offset_bounds-self-i
offset_bounds-self-i t c = record { fits = omega (arith, (laid-lies c.args.self.now.laid c.args.i c.requires.low).whole) }

pub bounds-self-i : goal.bounds-self-i
bounds-self-i t c = omega (arith, (laid-lies c.args.self.now.laid c.args.i c.requires.low).whole)

pub slice_bounds-fill_slots-end : goal.slice_bounds-fill_slots-end
slice_bounds-fill_slots-end t c =
    let its = table_is (laid-lies c.args.self.now.laid c.args.i c.requires.low) _ _ c.table-table.ensures in
    omega (arith, left_in c.loop-iters.invariant _ its)

pub fill_slots-requires-clause-lies_at : goal.fill_slots-requires-clause-lies_at
fill_slots-requires-clause-lies_at t c = rw (c.loop-iters.invariant.slots_same, c.requires.slots_long) (laid-lies c.args.self.now.laid c.args.i c.requires.low)

pub returns-then-position-end : goal.returns-then-position-end
returns-then-position-end t c =
    let turn = c.loop-iters.invariant in
    let its = table_is (laid-lies c.args.self.now.laid c.args.i c.requires.low) (tables_of c.args.self.now.aevt.now c.args.self.now.avet.now c.args.self.now.eavt.now) _ c.table-table.ensures in
    let sound = rw (← c.requires.slots_long, ← turn.slots_same) at c.args.self.now.laid in
    turn-take turn sound.sound c.if-position-end.true _ _ its (rw (left-first turn _ its c.if-position-end.true) at c.fill_slots.ensures)

pub returns-then-i-eq0 : goal.returns-then-i-eq0
returns-then-i-eq0 t c = turn_end c.loop-iters.invariant c.if-position-end.false c.if-i-eq0.true

pub returns-then-not-increment : goal.returns-then-not-increment
returns-then-not-increment t c = turn-no c.loop-iters.invariant c.if-position-end.false c.if-i-eq0.false _ _ c.if-not-increment.ensures

pub get_iter-iter-requires : goal.get_iter-iter-requires
get_iter-iter-requires t c =
    rw (c.increment.auto.slots, c.loop-iters.invariant.slots_same, c.requires.slots_long) (laid-lies c.args.self.now.laid c.args.i c.requires.low)

pub loop-iters-smaller : goal.loop-iters-smaller
loop-iters-smaller t c =
    turn-less c.loop-iters.invariant c.if-position-end.false c.if-i-eq0.false _ _ c.if-not-increment.ensures c.increment.auto.iters c.increment.auto.slots
    _ _ _ c.get_iter-iter.ensures

pub loop-iters-preserved : goal.loop-iters-preserved
loop-iters-preserved t c =
    let turn = c.loop-iters.invariant in
    let its = table_is (laid-lies c.args.self.now.laid c.args.i c.requires.low) (tables_of c.args.self.now.aevt.now c.args.self.now.avet.now c.args.self.now.eavt.now) _ c.table-table.ensures in
    let sound = rw (← c.requires.slots_long, ← turn.slots_same) at c.args.self.now.laid in
    turn-again turn c.if-position-end.false c.if-i-eq0.false _ _ c.if-not-increment.ensures c.increment.auto.iters c.increment.auto.slots
    _ _ _ c.get_iter-iter.ensures sound.sound c.args.self.now.ascend its
