-- Each end of the comparison is one of the laws of WordByWord.antt.
use mathlib.Core.Path.{sym, ◌∙◌}
use borrow.Author.Tests.{eq-eqb}
use Rattle.tables.proofs.WordByWord.{begins-words, key-0, first-apart, key-1, second-apart, key-2, third}
use Rattle.tables.proofs.Key.begins.Goals as goal

pub returns-then-self-eq0 : goal.returns-then-self-eq0
returns-then-self-eq0 c = eq-eqb _ _ c.if-self-eq0.true ∙ sym (key-0 begins-words _ _ c.requires _ _ _ _ c.if-self-eq0.true)

pub returns-else-table-i : goal.returns-else-table-i
returns-else-table-i c = sym (first-apart begins-words _ _ c.requires _ _ _ _ c.if-self-eq0.false c.if-table-i.false)

pub returns-then-self-eq1 : goal.returns-then-self-eq1
returns-then-self-eq1 c = eq-eqb _ _ c.if-self-eq1.true ∙ sym (key-1 begins-words _ _ c.requires _ _ _ _ c.if-self-eq1.true c.if-table-i.true)

pub returns-else-table-i-2 : goal.returns-else-table-i-2
returns-else-table-i-2 c =
    sym (second-apart begins-words _ _ c.requires _ _ _ _ c.if-self-eq0.false c.if-self-eq1.false c.if-table-i.true c.if-table-i-2.false)

pub returns-then-self-eq2 : goal.returns-then-self-eq2
returns-then-self-eq2 c =
    eq-eqb _ _ c.if-self-eq2.true ∙ sym (key-2 begins-words _ _ c.requires _ _ _ _ c.if-self-eq2.true c.if-table-i.true c.if-table-i-2.true)

pub returns-else-self-eq2 : goal.returns-else-self-eq2
returns-else-self-eq2 c =
    sym (third begins-words _ _ c.requires _ _ _ _ c.if-self-eq0.false c.if-self-eq1.false c.if-self-eq2.false c.if-table-i.true c.if-table-i-2.true)
