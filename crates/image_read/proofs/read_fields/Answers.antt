-- The fields in two parts.
use Rattle.std.proofs.Common.{◌∙◌}
use Rattle.std.proofs.lemmas.Result.{err_from_is_err_and}
use Rattle.image_read.specs.Plan.{plan_behind}
use Rattle.image_read.proofs.Answered.{read-then, read-stop}
use Rattle.image_read.proofs.Whole.{fields-parted}
use Rattle.image_read.proofs.read_fields.Goals as goal

pub returns-in_err-counts : goal.returns-in_err-counts
returns-in_err-counts c =
    let r = read-stop c.in_err-counts.ensures.reads plan_behind in
    let p = err_from_is_err_and c.from_residual.result c.from_residual.ensures.1 in rw (p.1, p.2) (record { answers = r.answers ∙ fields-parted _ _; within = tt })

pub returns : goal.returns
returns c =
    let r = read-then c.in_ok-counts.ensures.reads plan_behind c.read_plan.ensures in
    record { answers = r.answers ∙ fields-parted _ _; within = r.within }
