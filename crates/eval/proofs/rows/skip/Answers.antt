-- Each turn is a law of Passing.
use Rattle.std.proofs.Common.{◌≡◌, ◌+◌, ◌-◌, arith}
use Rattle.eval.proofs.Passing.{skip-no, skip-again}
use Rattle.eval.proofs.rows.skip.Goals as goal

pub returns-then-not-next : goal.returns-then-not-next
returns-then-not-next c = skip-no c.loop.invariant _ _ c.if-not-next.ensures

pub loop-preserved : goal.loop-preserved
loop-preserved c =
    let less : c.args.count - c.loop.counter - 1 ≡ c.args.count - (c.loop.counter + 1) = omega arith in
    rw (← less) (skip-again c.loop.invariant _ _ c.if-not-next.ensures c.next.auto.iters c.next.auto.slots (omega arith))
