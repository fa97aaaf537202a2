-- A slot's number is a field.
use Rattle.std.proofs.lemmas.Result.{err_from_is_err_and}
use Rattle.image_read.proofs.Made.{select-stopped, select_read}
use Rattle.image_read.proofs.parts.read_select.Goals as goal

pub returns-in_err-slot : goal.returns-in_err-slot
returns-in_err-slot c = let p = err_from_is_err_and c.from_residual.result c.from_residual.ensures.1 in rw (p.1, p.2) (select-stopped c.in_err-slot.ensures.reads)

pub returns : goal.returns
returns c = select_read c.in_ok-slot.ensures.reads
