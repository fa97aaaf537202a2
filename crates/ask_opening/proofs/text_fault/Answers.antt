-- The part of the buffer is as long as it says.
use Rattle.std.proofs.Common.{◌≡◌, ◌-◌, sym, ap, ◌∙◌, Err, length, take, rules, arith, length-take-le}
use Rattle.refusal.specs.Verdict.{Verdict}
use Rattle.plan_text.specs.Answer.{text_fault}
use Rattle.ask_opening.specs.Opening.{cost_bytes}
use Rattle.ask_opening.proofs.Said.{text-refused, text-accepted}
use Rattle.ask_opening.proofs.text_fault.Goals as goal

pub returns-in_err-measure : goal.returns-in_err-measure
returns-in_err-measure c =
    let a = c.args in
    let e : ◌≡◌ {A = Verdict} c.from_residual.result (Err c.in_err-measure.field-0.0) = search rules in
    let long : length (take c.saturating_sub-room.result a.out.now) ≡ length a.out.now - cost_bytes = omega (arith, length-take-le c.saturating_sub-room.result a.out.now (omega arith)) in
    e ∙ text-refused _ _ _ _ _ (sym c.measure.ensures ∙ c.in_err-measure.was) ∙ ap (text_fault a.plan a.names.now a.ends.now) long

pub returns : goal.returns
returns c =
    let a = c.args in
    let long : length (take c.saturating_sub-room.result a.out.now) ≡ length a.out.now - cost_bytes = omega (arith, length-take-le c.saturating_sub-room.result a.out.now (omega arith)) in
    text-accepted _ _ _ _ _ (sym c.measure.ensures ∙ c.in_ok-measure.was) ∙ ap (text_fault a.plan a.names.now a.ends.now) long
