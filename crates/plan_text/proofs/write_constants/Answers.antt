-- One slot more: a variable has no line.
use Rattle.std.proofs.Common.{arith}
use Rattle.text_pieces.proofs.Wrote.{wrote_none, wrote_no_more, wrote_then}
use Rattle.plan_text.specs.Text.{constant_line, constant_lines}
use Rattle.plan_text.proofs.Lines.{constants-next}
use Rattle.plan_text.proofs.write_constants.Goals as goal
use Rattle.plan_text.proofs.write_constants.Goals.{in-Constant, in_default}

pub loop-i_slot-init : goal.loop-i_slot-init
unfolding constant_lines
loop-i_slot-init c = wrote_none (omega arith) (omega arith)

pub loop-i_slot-preserved : goal.loop-i_slot-preserved
unfolding constant_line
loop-i_slot-preserved c =
    let l = c.loop-i_slot in
    rw (constants-next c.args.slots.now l.i_slot (omega arith))
    (elim c.match-slot.branch [
      | in-Constant w ↦ rw (w.pen-is, w.in-Constant.is) (wrote_then l.invariant w.write_constant.ensures)
      | in_default w ↦ rw (w.pen-is, w.in_default.is) (wrote_no_more l.invariant)
    ])
