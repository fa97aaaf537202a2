-- One line or the other.
use Rattle.ask_rows.specs.Windows.{last_line}
use Rattle.ask_rows.proofs.write_last.Goals as goal

pub returns-then-more : goal.returns-then-more
unfolding last_line
returns-then-more c = rw c.if-more.true c.write.ensures

pub returns-else-more : goal.returns-else-more
unfolding last_line
returns-else-more c = rw c.if-more.false c.write-else-more.ensures
