-- Reading stops at one, or goes on.
use Rattle.std.proofs.Common.{arith}
use Rattle.std.proofs.lemmas.Result.{err_from_is_err_and}
use Rattle.image_read.proofs.Gathered.{gathered_none, gathered-more, gathered-stopped, gathered-all}
use Rattle.image_read.proofs.parts.read_selects.Goals as goal

pub loop-i-init : goal.loop-i-init
loop-i-init c = gathered_none _ _ _ _ _ _ c.requires.0

pub returns-in_err-slot : goal.returns-in_err-slot
returns-in_err-slot c = let p = err_from_is_err_and c.from_residual.result c.from_residual.ensures.1 in rw (p.1, p.2) (gathered-stopped _ _ _ _ _ _ c.loop-i.invariant (omega arith) c.in_err-slot.ensures)

pub loop-i-preserved : goal.loop-i-preserved
loop-i-preserved c = gathered-more _ _ _ _ _ _ c.loop-i.invariant (omega arith) (omega arith) c.in_ok-slot.ensures

pub returns : goal.returns
returns c = gathered-all _ _ _ _ _ _ c.loop-i.invariant (omega arith)
