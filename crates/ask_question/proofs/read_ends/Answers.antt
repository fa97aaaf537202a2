-- `read_ends` meets its contract.
use Rattle.std.proofs.Common.{arith}
use Rattle.lists.proofs.Tabled.{tabled-none, tabled-more}
use Rattle.ask_question.proofs.read_ends.Goals as goal

pub loop-i-init : goal.loop-i-init
loop-i-init c = tabled-none _

pub loop-i-preserved : goal.loop-i-preserved
loop-i-preserved c = let l = c.loop-i in tabled-more _ l.ends l.i _ (omega arith) c.end_at.ensures l.invariant
