-- `are_kinds` meets its contract.
use Rattle.std.proofs.Common.{ℕ, ◌≡◌, ◌+◌, ◌*◌, ◌∙◌, ap, arith, drop, sym}
use Rattle.ask_question.specs.Parts.{are_kinds}
use Rattle.ask_question.proofs.Found.{kinds-end, kinds-no, kinds-on}
use Rattle.ask_question.proofs.are_kinds.Goals as goal

pub returns-then-words-i-gt-CONSTANT : goal.returns-then-words-i-gt-CONSTANT
returns-then-words-i-gt-CONSTANT c =
    let l = c.loop-i in
    sym (l.invariant ∙ kinds-no c.args.words.now (l.i * 4) (omega arith) c.if-words-i-gt-CONSTANT.true)

pub loop-i-preserved : goal.loop-i-preserved
loop-i-preserved c =
    let l = c.loop-i in
    let e : l.i * 4 + 4 ≡ (l.i + 1) * 4 = omega arith in
    let next = ap (λ (j : ℕ). are_kinds (drop j c.args.words.now)) e in
    l.invariant ∙ kinds-on c.args.words.now (l.i * 4) (omega arith) c.if-words-i-gt-CONSTANT.false ∙ next

pub returns : goal.returns
returns c = let l = c.loop-i in kinds-end c.args.words.now (l.i * 4) (omega arith) ∙ sym l.invariant
