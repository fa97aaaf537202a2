-- Each end of the comparison is one of the laws of WordByWord.antt.
use mathlib.Core.Path.{sym}
use Rattle.tables.proofs.WordByWord.{before-words, key-0, first_last, first-apart, second-last, second-apart, third}
use Rattle.tables.proofs.Key.is_after.Goals as goal
use Rattle.tables.proofs.Key.is_after.Goals.{then-self-eq1-via-then-self-eq1, then-self-eq1-via-else-self-eq1+then-word-self, then-self-eq2-via-then-self-eq2, then-self-eq2-via-else-self-eq2+then-word-self-2}

pub returns-then-self-eq0 : goal.returns-then-self-eq0
returns-then-self-eq0 c = sym (key-0 before-words _ _ c.requires _ _ _ _ c.if-self-eq0.true)

pub returns-then-self-eq1 : goal.returns-then-self-eq1
returns-then-self-eq1 c =
    elim c.then-self-eq1.branch [
      | then-self-eq1-via-then-self-eq1 w ↦ sym (first_last before-words _ _ c.requires _ _ _ _ w.if-self-eq1.true)
      | then-self-eq1-via-else-self-eq1+then-word-self w ↦ sym (first-apart before-words _ _ c.requires _ _ _ _ c.if-self-eq0.false w.if-word-self.true)
    ]

pub returns-then-self-eq2 : goal.returns-then-self-eq2
returns-then-self-eq2 c =
    elim c.then-self-eq2.branch [
      | then-self-eq2-via-then-self-eq2 w ↦ sym (second-last before-words _ _ c.requires _ _ _ _ w.if-self-eq2.true c.if-word-self.false)
      | then-self-eq2-via-else-self-eq2+then-word-self-2 w ↦
          sym (second-apart before-words _ _ c.requires _ _ _ _ c.if-self-eq0.false c.if-self-eq1.false c.if-word-self.false w.if-word-self-2.true)
    ]

pub returns : goal.returns
returns c =
    sym
    (third before-words _ _ c.requires _ _ _ _ c.if-self-eq0.false c.if-self-eq1.false c.if-self-eq2.false c.if-word-self.false c.if-word-self-2.false)
