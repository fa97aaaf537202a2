-- An array stopped, or all three are read.
use Rattle.std.proofs.lemmas.Result.{err_from_is_err_and}
use Rattle.image_read.proofs.Whole.{no-slots, no-scans, no-selects, plan-read}
use Rattle.image_read.proofs.read_plan.Goals as goal

pub returns-in_err-slots : goal.returns-in_err-slots
returns-in_err-slots c = let p = err_from_is_err_and c.from_residual.result c.from_residual.ensures.1 in rw (p.1, p.2) (no-slots c.args.counts c.in_err-slots.ensures)

pub returns-in_err-scans : goal.returns-in_err-scans
returns-in_err-scans c = let p = err_from_is_err_and c.from_residual-in_err-scans.result c.from_residual-in_err-scans.ensures.1 in rw (p.1, p.2) (no-scans c.args.counts c.in_ok-slots.ensures c.in_err-scans.ensures)

pub returns-in_err-select : goal.returns-in_err-select
returns-in_err-select c =
    let p = err_from_is_err_and c.from_residual-in_err-select.result c.from_residual-in_err-select.ensures.1 in rw (p.1, p.2) (no-selects c.args.counts c.in_ok-slots.ensures c.in_ok-scans.ensures c.in_err-select.ensures)

pub returns : goal.returns
returns c = plan-read c.args.counts c.in_ok-slots.ensures c.in_ok-scans.ensures c.in_ok-select.ensures
