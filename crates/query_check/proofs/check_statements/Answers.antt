-- A loop over all statements that has found none so far.
use mathlib.Core.Path.{refl, sym, ◌∙◌}
use Rattle.refusal.specs.Verdict.{refuse_first}
use Rattle.refusal.proofs.First.{walked_on}
use Rattle.query.specs.Query.{zero_statement}
use Rattle.query_check.specs.Refusals.{statements_fault}
use Rattle.query_check.proofs.Walks.{whole-found, whole-done}
use Rattle.query_check.proofs.check_statements.Goals as goal

pub returns-then-is_high : goal.returns-then-is_high
unfolding statements_fault refuse_first
returns-then-is_high c =
    c.refuse.ensures ∙ sym (whole-found c.loop-i.invariant zero_statement c.loop-i-test.true (rw (sym c.is_high.ensures ∙ c.if-is_high.true) refl))

pub loop-i-preserved : goal.loop-i-preserved
loop-i-preserved c =
    walked_on c.loop-i.invariant zero_statement c.loop-i-test.true (rw (sym c.is_high.ensures ∙ c.if-is_high.false) refl)

pub returns : goal.returns
unfolding statements_fault refuse_first
returns c = sym (whole-done c.loop-i.invariant c.loop-i-test.false)
