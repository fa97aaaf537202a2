-- A count stopped, the counts are refused, or they are read.
use Rattle.std.proofs.Common.{sym}
use Rattle.std.proofs.lemmas.Result.{err_from_is_err_and}
use Rattle.image_read.proofs.Whole.{no-scan-count, no-slot-count, no-select-count, counts-refused, counts-met}
use Rattle.image_read.proofs.read_counts.Goals as goal

pub returns-in_err-scans : goal.returns-in_err-scans
returns-in_err-scans c = let p = err_from_is_err_and c.from_residual.result c.from_residual.ensures.1 in rw (p.1, p.2) (no-scan-count c.in_err-scans.ensures.reads)

pub returns-in_err-slots : goal.returns-in_err-slots
returns-in_err-slots c = let p = err_from_is_err_and c.from_residual-in_err-slots.result c.from_residual-in_err-slots.ensures.1 in rw (p.1, p.2) (no-slot-count c.in_ok-scans.ensures.reads c.in_err-slots.ensures.reads)

pub returns-in_err-selects : goal.returns-in_err-selects
returns-in_err-selects c = let p = err_from_is_err_and c.from_residual-in_err-selects.result c.from_residual-in_err-selects.ensures.1 in rw (p.1, p.2) (no-select-count c.in_ok-scans.ensures.reads c.in_ok-slots.ensures.reads c.in_err-selects.ensures.reads)

pub returns-in_err-check_counts : goal.returns-in_err-check_counts
returns-in_err-check_counts c =
    let p = err_from_is_err_and c.from_residual-in_err-check_counts.result c.from_residual-in_err-check_counts.ensures.1 in rw (p.1, p.2) (counts-refused c.in_ok-scans.ensures.reads c.in_ok-slots.ensures.reads c.in_ok-selects.ensures.reads (sym c.in_err-check_counts.ensures))

pub returns : goal.returns
returns c = counts-met c.in_ok-scans.ensures.reads c.in_ok-slots.ensures.reads c.in_ok-selects.ensures.reads (sym c.in_ok-check_counts.ensures)
