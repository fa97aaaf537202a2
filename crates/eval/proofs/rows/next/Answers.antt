-- It is a step of the innermost scan.
use Rattle.std.proofs.Common.{arith}
use Rattle.eval.proofs.Words.{laid-length}
use Rattle.eval.proofs.Advance.{advanced, innermost-is}
use Rattle.eval.proofs.rows.next.Goals as goal

pub overflow_sub-innermost_iter : goal.overflow_sub-innermost_iter
overflow_sub-innermost_iter c = omega (arith, laid-length c.args.nest.now.laid, c.requires.low)

pub increment-requires : goal.increment-requires
increment-requires c = rw (innermost-is c.args.nest.now.laid) c.requires

pub returns : goal.returns
returns c =
    let step = c.increment in
    let laid = c.args.nest.now.laid in
    let sound = rw (← c.requires.slots_long) at laid.sound in
    advanced c.requires sound _ _ step.auto.iters step.auto.slots _ (rw (innermost-is laid) at step.ensures)
