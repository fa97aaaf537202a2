use native.Mathlib.Omega.{arith}
use Rattle.lists.proofs.Laid.{laid_none, laid-step}
use Rattle.text_pieces.specs.Escaped.{escaped_byte}
use Rattle.text_pieces.proofs.Wrote.{wrote_none, wrote_then}
use Rattle.text_pieces.proofs.Pen.write_escaped.Goals as goal

pub loop-byte-init : goal.loop-byte-init
loop-byte-init c = rw (← (laid_none escaped_byte)) (wrote_none (omega arith) (omega arith))

pub loop-byte-preserved : goal.loop-byte-preserved
loop-byte-preserved c =
    let l = c.loop-byte in
    rw (laid-step escaped_byte c.args.name.now l.byte-index 0 (omega arith)) (wrote_then l.invariant c.write_byte.ensures)
