-- Refused, nothing is written; else the plan's bits, which fit.
use Rattle.std.proofs.Common.{sym, ◌∙◌}
use Rattle.std.proofs.lemmas.Result.{err_from_is_err_and}
use Rattle.image_write.proofs.Written.{counted, check-refuses, buffer-short, image-written}
use Rattle.image_write.proofs.write_image.Goals as goal

pub returns-in_err-check_invariants-clause-value : goal.returns-in_err-check_invariants-clause-value
returns-in_err-check_invariants-clause-value c = let p = err_from_is_err_and c.from_residual.result c.from_residual.ensures.1 in rw (p.1, p.2) (check-refuses c.args.plan c.args.out.now _ c.in_err-check_invariants.ensures).0

pub returns-in_err-check_invariants-clause-out_after : goal.returns-in_err-check_invariants-clause-out_after
returns-in_err-check_invariants-clause-out_after c = (check-refuses c.args.plan c.args.out.now _ c.in_err-check_invariants.ensures).1

pub image_length-length-requires : goal.image_length-length-requires
image_length-length-requires c = counted _ (sym c.in_ok-check_invariants.ensures)

pub returns-then-out-length-clause-value : goal.returns-then-out-length-clause-value
returns-then-out-length-clause-value c =
    c.refuse.ensures ∙ (buffer-short c.args.plan c.args.out.now (sym c.in_ok-check_invariants.ensures) _ c.image_length-length.ensures c.if-out-length.true).0

pub returns-then-out-length-clause-out_after : goal.returns-then-out-length-clause-out_after
returns-then-out-length-clause-out_after c =
    (buffer-short c.args.plan c.args.out.now (sym c.in_ok-check_invariants.ensures) _ c.image_length-length.ensures c.if-out-length.true).1

pub write_plan-requires : goal.write_plan-requires
write_plan-requires c = counted _ (sym c.in_ok-check_invariants.ensures)

pub returns-clause-value : goal.returns-clause-value
returns-clause-value c =
    (image-written c.args.plan c.args.out.now (sym c.in_ok-check_invariants.ensures) _ c.image_length-length.ensures _ c.if-out-length.false c.write_plan.ensures).0

pub returns-clause-out_after : goal.returns-clause-out_after
returns-clause-out_after c =
    (image-written c.args.plan c.args.out.now (sym c.in_ok-check_invariants.ensures) _ c.image_length-length.ensures _ c.if-out-length.false c.write_plan.ensures).1
