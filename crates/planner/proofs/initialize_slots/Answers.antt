-- Each turn is one of proofs/Slots.antt's.
use native.Mathlib.Omega.{arith}
use Rattle.query_check.specs.Refusals.{constants}
use Rattle.planner.proofs.Slots.{slots-none, slots-room, slots-turn}
use Rattle.planner.proofs.initialize_slots.Goals as goal
use Rattle.planner.proofs.initialize_slots.Goals.{in-Const, in_default}

pub loop-statement-init : goal.loop-statement-init
unfolding constants
loop-statement-init c = (omega arith, slots-none c.args.variables (omega (arith, c.requires.few_slots)))

pub offset_bounds-slots-slot_count : goal.offset_bounds-slots-slot_count
offset_bounds-slots-slot_count c =
    record { fits = omega (arith, c.loop-statement.invariant.0, rw c.in-Const.is at (slots-room _ _ c.requires _ c.loop-statement-test.true)) }

pub bounds-slots-slot_count : goal.bounds-slots-slot_count
bounds-slots-slot_count c =
    omega (arith, c.loop-statement.invariant.0, rw c.in-Const.is at (slots-room _ _ c.requires _ c.loop-statement-test.true))

pub overflow_add-slot_count : goal.overflow_add-slot_count
overflow_add-slot_count c =
    record { fits = omega (arith, c.loop-statement.invariant.0, rw c.in-Const.is at (slots-room _ _ c.requires _ c.loop-statement-test.true)) }

pub loop-statement-preserved : goal.loop-statement-preserved
loop-statement-preserved c =
    let t = slots-turn _ _ c.requires _ c.loop-statement-test.true _ _ c.loop-statement.invariant.0 c.loop-statement.invariant.1 in
    elim c.match-statement.branch [
      | in-Const w ↦ rw (w.slots-is, w.slot_count-is) (rw w.in-Const.is at t)
      | in_default w ↦ let u = rw w.in_default.is at t in (omega (arith, u.0, w.slot_count-is), rw w.slots-is u.1)
    ]
