-- The parts are the tables.
use Rattle.std.proofs.Common.{ap, ◌∙◌}
use Rattle.eval.specs.Evaluation.{evaluation_fault}
use Rattle.ask_opening.proofs.Said.{tables-are}
use Rattle.ask_opening.proofs.evaluation_fault.Goals as goal

pub returns : goal.returns
returns c = c.check.ensures ∙ ap (evaluation_fault _) (tables-are _ _ c.requires _ _ _ c.items.ensures c.items-2.ensures c.items-3.ensures)
