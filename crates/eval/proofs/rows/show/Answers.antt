-- Each turn of the loop is a law of Fill, and each of the ends one of Ends.
use Rattle.std.proofs.Common.{◌≡◌, ◌/◌, length, refl, arith}
use Rattle.eval.proofs.Fill.{fill_start, fill-again}
use Rattle.eval.proofs.Ends.{rows_drop, shows-none, shows-all, shows-full, left-none, left-all, left-full}
use Rattle.eval.proofs.rows.show.Goals as goal

pub returns-then-not-skip-clause-shows : goal.returns-then-not-skip-clause-shows
returns-then-not-skip-clause-shows c = shows-none _ _ _ _ _ _ _ _ (c.if-not-skip.ensures.no_more refl)

pub returns-then-not-skip-clause-iters_after : goal.returns-then-not-skip-clause-iters_after
returns-then-not-skip-clause-iters_after c = left-none _ _ c.args.from _ (c.if-not-skip.ensures.no_more refl) c.skip.ensures.rest

pub loop-count-init : goal.loop-count-init
loop-count-init c = fill_start _ _ _ _ _ _ _ c.skip.ensures.ready

pub returns-then-not-next-clause-shows : goal.returns-then-not-next-clause-shows
returns-then-not-next-clause-shows c =
    shows-all c.loop-count.invariant _ c.args.from (rows_drop _ _ _ _ _ _ c.args.from c.skip.ensures.rest) (omega arith) _ _ c.if-not-next.ensures

pub returns-then-not-next-clause-iters_after : goal.returns-then-not-next-clause-iters_after
returns-then-not-next-clause-iters_after c = left-all c.loop-count.invariant _ c.args.from c.skip.ensures.rest _ _ c.if-not-next.ensures

pub loop-count-preserved : goal.loop-count-preserved
loop-count-preserved c =
    fill-again c.loop-count.invariant _ _ _ (omega arith) c.if-not-next.ensures c.next.auto.iters c.next.auto.slots c.put_row.auto.rows c.put_row.ensures

pub returns-clause-shows : goal.returns-clause-shows
returns-clause-shows c =
    let e : c.loop-count.count ≡ length c.args.rows.now / length c.args.selects.now = omega arith in
    rw (← e)
    (shows-full c.loop-count.invariant _ c.args.from (rows_drop _ _ _ _ _ _ c.args.from c.skip.ensures.rest) (omega arith) c.next-more.result _ _ c.next-more.ensures)

pub returns-clause-iters_after : goal.returns-clause-iters_after
returns-clause-iters_after c =
    left-full c.loop-count.invariant _ c.args.from c.skip.ensures.rest _ _ (omega arith) c.next-more.result c.next-more.ensures
