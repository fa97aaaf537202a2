use native.Mathlib.Omega.{arith}
use Rattle.ask_lines.proofs.Rows.{none_yet, one_more, all-written}
use Rattle.ask_lines.proofs.write_rows.Goals as goal

pub loop-word-init : goal.loop-word-init
loop-word-init c = none_yet (omega arith) (omega arith)

pub loop-word-preserved : goal.loop-word-preserved
loop-word-preserved c =
    let l = c.loop-word in rw c.left_after-left.ensures (one_more l.invariant c.loop-word-test.true c.write_word.ensures)

pub returns : goal.returns
returns c = all-written c.loop-word.invariant c.loop-word-test.false
