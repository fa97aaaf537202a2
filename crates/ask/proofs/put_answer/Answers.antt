-- With each part fewer are to come.
use Rattle.ask_answer.proofs.Handed.{fewer}
use Rattle.ask.proofs.put_answer.Goals as goal

pub loop-following-smaller : goal.loop-following-smaller
loop-following-smaller c = rw c.in-Some.is (fewer c.in-Ok.ensures)
