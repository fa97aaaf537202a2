-- One select more.
use Rattle.std.proofs.Common.{arith}
use Rattle.text_pieces.proofs.Wrote.{wrote_none, wrote_no_more, wrote_then}
use Rattle.plan_text.specs.Text.{joined, selects_text}
use Rattle.plan_text.proofs.Lines.{selects-next, separator-first, separator-past}
use Rattle.plan_text.proofs.write_selects.Goals as goal
use Rattle.plan_text.proofs.write_selects.Goals.{then-i-ne0, else-i-ne0}

pub loop-i-init : goal.loop-i-init
unfolding selects_text joined
loop-i-init c = wrote_none (omega arith) (omega arith)

pub loop-i-preserved : goal.loop-i-preserved
loop-i-preserved c =
    let l = c.loop-i in
    rw (selects-next _ _ _ c.args.select.now l.i (omega arith))
    (elim c.if-i-ne0.branch [
      | then-i-ne0 w ↦ rw (separator-past _ w.if-i-ne0.true) (wrote_then (wrote_then l.invariant w.write.ensures) (rw w.pen-is at c.write_slot.ensures))
      | else-i-ne0 w ↦ rw (separator-first _ w.if-i-ne0.false) (wrote_then (wrote_no_more l.invariant) (rw w.pen-is at c.write_slot.ensures))
    ])
