use mathlib.Core.Path.{sym, ◌∙◌}
use Rattle.ask_numbers.proofs.Saying.{said-space}
use Rattle.ask_numbers.proofs.skip.Goals as goal

pub loop-at-preserved : goal.loop-at-preserved
loop-at-preserved c = c.loop-at.invariant ∙ said-space _ c.loop-at.at c.loop-at-test.true (sym c.if-not-is_space.ensures)
