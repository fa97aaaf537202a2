-- The same of selects, counted on from the statements.
use mathlib.Core.Path.{refl, sym, ◌∙◌}
use native.Mathlib.Nat.{add_assoc}
use borrow.Author.Tests.{le-leb, lt-leb}
use Rattle.refusal.specs.Verdict.{refuse_first}
use Rattle.refusal.proofs.First.{walked_on}
use Rattle.query.specs.Query.{zero_var}
use Rattle.query_check.specs.Refusals.{selects_fault}
use Rattle.query_check.proofs.Walks.{whole-found, whole-done}
use Rattle.query_check.proofs.check_selects.Goals as goal

pub returns-then-variables-v : goal.returns-then-variables-v
unfolding selects_fault refuse_first
returns-then-variables-v c =
    c.refuse.ensures ∙ sym (whole-found c.loop-i.invariant zero_var c.loop-i-test.true (rw (le-leb _ _ c.if-variables-v.true) refl))

pub loop-i-preserved : goal.loop-i-preserved
loop-i-preserved c =
    rw (← (add_assoc c.args.statement_count c.loop-i.i 1))
    (walked_on c.loop-i.invariant zero_var c.loop-i-test.true (rw (lt-leb _ _ c.if-variables-v.false) refl))

pub returns : goal.returns
unfolding selects_fault refuse_first
returns c = sym (whole-done c.loop-i.invariant c.loop-i-test.false)
