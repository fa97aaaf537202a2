-- The text that was measured is the text that is written.
use Rattle.std.proofs.Common.{length}
use Rattle.text_names.proofs.Fine.{names-fine}
use Rattle.plan_text.proofs.Answers.{text-fine, text-fits, after-fits}
use Rattle.plan_text.proofs.fmt.Goals as goal

pub write_plan-requires-clause-counted : goal.write_plan-requires-clause-counted
write_plan-requires-clause-counted c =
    let a = c.args in
    let room = length a.out.now in
    (names-fine _ _ _ (text-fits a.plan a.names.now a.ends.now room (text-fine a.plan a.names.now a.ends.now room _ c.in_ok-length.ensures)).0).0

pub write_plan-requires-clause-ends_len : goal.write_plan-requires-clause-ends_len
write_plan-requires-clause-ends_len c =
    let a = c.args in
    let room = length a.out.now in
    (names-fine _ _ _ (text-fits a.plan a.names.now a.ends.now room (text-fine a.plan a.names.now a.ends.now room _ c.in_ok-length.ensures)).0).1

pub returns-clause-out_after : goal.returns-clause-out_after
returns-clause-out_after c =
    let a = c.args in
    after-fits a.plan a.names.now a.ends.now a.out.now (text-fine a.plan a.names.now a.ends.now (length a.out.now) _ c.in_ok-length.ensures) _ _ c.write_plan.ensures
