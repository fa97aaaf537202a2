-- The slice is as long as it is, so each turn is one of proofs/Begun.antt's.
use mathlib.Core.Path.{refl, sym, ◌∙◌}
use native.Mathlib.Nat.{le_refl}
use native.Mathlib.Omega.{arith}
use lib.Seq.{take-length}
use Rattle.planner.proofs.Begun.{begun-none, begun_all, begun-below, begun-bound, begun_more, begun-room}
use Rattle.planner.proofs.initialize_scans.Goals as goal

pub loop-i-init : goal.loop-i-init
loop-i-init c = begun-none _ _ _ c.requires (le_refl _)

pub binds_twice-requires : goal.binds_twice-requires
binds_twice-requires c = (begun-below _ _ _ c.requires (le_refl _) c.loop-i.invariant c.loop-i-test.true).entity_below

pub returns-then-binds_twice : goal.returns-then-binds_twice
returns-then-binds_twice c =
    let e = rw take-length at (begun-bound _ _ _ c.requires (le_refl _) c.loop-i.invariant c.loop-i-test.true (sym c.binds_twice.ensures ∙ c.if-binds_twice.true)) in
    c.refuse.ensures ∙ sym (rw e refl)

pub scan_for-requires : goal.scan_for-requires
scan_for-requires c =
    (begun-below _ _ _ c.requires (le_refl _) c.loop-i.invariant c.loop-i-test.true, omega (arith, begun-room _ _ _ c.requires (le_refl _) c.loop-i.invariant c.loop-i-test.true))

pub record_statement-requires : goal.record_statement-requires
record_statement-requires c = begun-below _ _ _ c.requires (le_refl _) c.loop-i.invariant c.loop-i-test.true

pub overflow_add-slot_count : goal.overflow_add-slot_count
overflow_add-slot_count c =
    record { fits = omega (arith, begun-room _ _ _ c.requires (le_refl _) c.loop-i.invariant c.loop-i-test.true, c.constants_in-slot_count.ensures) }

pub loop-i-preserved : goal.loop-i-preserved
loop-i-preserved c =
    rw (c.record_statement.ensures, c.scan_for.ensures, c.constants_in-slot_count.ensures)
    (begun_more _ _ _ c.requires (le_refl _) c.loop-i.invariant c.loop-i-test.true (sym c.binds_twice.ensures ∙ c.if-binds_twice.false))

pub returns : goal.returns
returns c =
    let e = rw take-length at (begun_all _ _ _ c.requires (le_refl _) c.loop-i.invariant c.loop-i-test.false) in
    rw (← e) refl
