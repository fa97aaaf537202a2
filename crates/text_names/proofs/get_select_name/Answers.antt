-- No bytes where it is refused, else the name of the select's slot.
use Rattle.std.proofs.Common.{sym, ◌∙◌, arith}
use lib.Seq.{get_or-take}
use Rattle.plan.specs.Plan.{zero_slot}
use Rattle.text_names.specs.Names.{select_name_of}
use Rattle.text_names.proofs.Fine.{select-fine}
use Rattle.text_names.proofs.get_select_name.Goals as goal

pub offset_bounds-plan-index : goal.offset_bounds-plan-index
offset_bounds-plan-index c =
    let h = select-fine c.args.plan c.args.names.now c.args.ends.now c.args.index (sym c.in-Ok.ensures) in
    record { fits = omega (arith, h.0, h.1.few_selects) }

pub bounds-plan-index : goal.bounds-plan-index
bounds-plan-index c =
    let h = select-fine c.args.plan c.args.names.now c.args.ends.now c.args.index (sym c.in-Ok.ensures) in
    omega (arith, h.0, h.1.few_selects)

pub returns-in-Ok : goal.returns-in-Ok
unfolding select_name_of
returns-in-Ok c =
    let a = c.args in
    let h = select-fine a.plan a.names.now a.ends.now a.index (sym c.in-Ok.ensures) in
    c.get_name.ensures ∙ sym (simp (sym c.in-Ok.ensures, get_or-take a.plan.select_count a.plan.select a.index zero_slot h.0))

pub returns-in-Err : goal.returns-in-Err
unfolding select_name_of
returns-in-Err c = simp (sym c.in-Err.ensures)
