use mathlib.Core.Path.{◌∙◌}
use native.Mathlib.Omega.{arith}
use Rattle.ask_numbers.proofs.Saying.{said-end}
use Rattle.ask_numbers.proofs.Reading.{so_far_begins, so-far-ends, so-far-leaves, so-far-full, so_far_on}
use Rattle.ask_numbers.proofs.read_words.Goals as goal

pub loop-at-init : goal.loop-at-init
loop-at-init c = (so_far_begins _ _ c.skip-at.ensures, c.skip-at.ensures.stops)

pub returns-in_err-number-clause-value : goal.returns-in_err-number-clause-value
returns-in_err-number-clause-value c = c.from_residual.ensures ∙ (so-far-leaves c.loop-at.invariant.0 c.in_err-number.ensures).0

pub returns-in_err-number-clause-words_after : goal.returns-in_err-number-clause-words_after
returns-in_err-number-clause-words_after c = (so-far-leaves c.loop-at.invariant.0 c.in_err-number.ensures).1

pub returns-then-words-count-clause-value : goal.returns-then-words-count-clause-value
returns-then-words-count-clause-value c =
    let f = c.loop-at.invariant.0 in (so-far-full f _ _ (omega (arith, f.as_long, c.if-words-count.true)) c.in_ok-number.ensures.reads).0

pub returns-then-words-count-clause-words_after : goal.returns-then-words-count-clause-words_after
returns-then-words-count-clause-words_after c =
    let f = c.loop-at.invariant.0 in (so-far-full f _ _ (omega (arith, f.as_long, c.if-words-count.true)) c.in_ok-number.ensures.reads).1

pub loop-at-preserved : goal.loop-at-preserved
loop-at-preserved c =
    let s = c.skip-at-in-loop-at.ensures in (so_far_on c.loop-at.invariant.0 _ _ c.if-words-count.false c.in_ok-number.ensures.reads s, s.stops)

pub returns-clause-value : goal.returns-clause-value
returns-clause-value c = (so-far-ends c.loop-at.invariant.0 (said-end _ _ c.loop-at-test.false)).0

pub returns-clause-words_after : goal.returns-clause-words_after
returns-clause-words_after c = (so-far-ends c.loop-at.invariant.0 (said-end _ _ c.loop-at-test.false)).1
