-- The mark stopped, it says variable, or the constant follows.
use Rattle.std.proofs.lemmas.Result.{err_from_is_err_and}
use Rattle.image_read.proofs.Made.{slot-stopped, slot-variable, constant-stopped, slot-constant}
use Rattle.image_read.proofs.parts.read_slot.Goals as goal

pub returns-in_err-mark : goal.returns-in_err-mark
returns-in_err-mark c = let p = err_from_is_err_and c.from_residual.result c.from_residual.ensures.1 in rw (p.1, p.2) (slot-stopped c.in_err-mark.ensures.reads)

pub returns-then-mark-eq0 : goal.returns-then-mark-eq0
returns-then-mark-eq0 c = slot-variable c.in_ok-mark.ensures.reads c.if-mark-eq0.true

pub returns-in_err-constant : goal.returns-in_err-constant
returns-in_err-constant c =
    let p = err_from_is_err_and c.from_residual-in_err-constant.result c.from_residual-in_err-constant.ensures.1 in rw (p.1, p.2) (constant-stopped c.in_ok-mark.ensures.reads c.if-mark-eq0.false c.in_err-constant.ensures.reads)

pub returns : goal.returns
returns c = slot-constant c.in_ok-mark.ensures.reads c.if-mark-eq0.false c.in_ok-constant.ensures.reads
