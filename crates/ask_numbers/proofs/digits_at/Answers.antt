use mathlib.Core.Path.{◌≡◌, sym, ◌∙◌}
use native.Mathlib.Omega.{arith}
use lib.ListN.{length}
use Rattle.ask_numbers.proofs.Saying.{after-end, after-space, after_more, after-stops}
use Rattle.ask_numbers.proofs.digits_at.Goals as goal

pub returns-then-is_space : goal.returns-then-is_space
returns-then-is_space c =
    let l = c.loop-at in
    record {
      onward = omega arith;
      within = omega arith;
      reads = l.invariant ∙ after-space _ l.at c.loop-at-test.true l.value (sym c.if-is_space.ensures);
    }

pub returns-in_err-value : goal.returns-in_err-value
returns-in_err-value c =
    let l = c.loop-at in
    rw c.from_residual.ensures
    (l.invariant ∙ after-stops _ l.at c.loop-at-test.true l.value (sym c.if-is_space.ensures) c.in_err-value.ensures)

pub loop-at-preserved : goal.loop-at-preserved
loop-at-preserved c =
    let l = c.loop-at in
    let n = c.in_ok-value.ensures in
    l.invariant ∙ rw n.1 (after_more _ l.at c.loop-at-test.true l.value (sym c.if-is_space.ensures) n.0)

pub returns : goal.returns
returns c =
    let l = c.loop-at in
    let e : l.at ≡ length c.args.text.now = omega arith in
    record {
      onward = omega arith;
      within = omega arith;
      reads = rw e at (l.invariant ∙ after-end _ l.at c.loop-at-test.false l.value);
    }
