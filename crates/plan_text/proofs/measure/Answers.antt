-- What the names' check leaves.
use Rattle.std.proofs.Common.{sym}
use Rattle.text_names.proofs.Fine.{names-fine}
use Rattle.plan_text.proofs.measure.Goals as goal

pub write_plan-length-requires-clause-counted : goal.write_plan-length-requires-clause-counted
write_plan-length-requires-clause-counted c = (names-fine _ _ _ (sym c.in_ok-check_names.ensures)).0

pub write_plan-length-requires-clause-ends_len : goal.write_plan-length-requires-clause-ends_len
write_plan-length-requires-clause-ends_len c = (names-fine _ _ _ (sym c.in_ok-check_names.ensures)).1
