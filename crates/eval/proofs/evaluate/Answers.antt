-- What passed `check` can be evaluated.
use Rattle.std.proofs.Common.{rules, sym}
use Rattle.eval.proofs.Answers.{fine-evaluable}
use Rattle.eval.proofs.evaluate.Goals as goal

pub evaluate_checked-requires : goal.evaluate_checked-requires
evaluate_checked-requires c = fine-evaluable _ _ _ _ (sym c.in_ok-check.ensures) (search rules) (search rules)
