-- Reading stopped, the end or the plan is refused, or the plan is read.
use Rattle.std.proofs.Common.{refl, sym}
use Rattle.std.proofs.lemmas.Result.{err_from_is_err_and}
use Rattle.image_read.proofs.Whole.{image-stopped, image-refused, image-fine}
use Rattle.image_read.proofs.read_image.Goals as goal

pub returns-in_err-plan : goal.returns-in_err-plan
returns-in_err-plan c = let p = err_from_is_err_and c.from_residual.result c.from_residual.ensures.1 in rw (p.1, p.2, image-stopped c.in_err-plan.ensures) refl

pub returns-in_err-check_read : goal.returns-in_err-check_read
returns-in_err-check_read c = let p = err_from_is_err_and c.from_residual-in_err-check_read.result c.from_residual-in_err-check_read.ensures.1 in rw (p.1, p.2, image-refused c.in_ok-plan.ensures (sym c.in_err-check_read.ensures)) refl

pub returns : goal.returns
returns c = rw (image-fine c.in_ok-plan.ensures (sym c.in_ok-check_read.ensures)) refl
