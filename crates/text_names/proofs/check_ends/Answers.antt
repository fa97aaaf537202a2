-- At an end: it is wrong, or one of those after it is.
use Rattle.std.proofs.Common.{◌≡◌, ◌+◌, ◌<◌, ◌∷◌, ℕ, List, length, get_or, drop, drop-cons, add-one, sym, ◌∙◌, arith}
use borrow.Author.Tests.{eq-eqb, ne_eqb}
use lib.ListN.{drop_of_length-le}
use Rattle.text_names.specs.Names.{wrong_ends, ends_fault}
use Rattle.text_names.proofs.check_ends.Goals as goal

turn : (bytes before i : ℕ) (ends : List ℕ) → i < length ends → wrong_ends bytes before (drop i ends) ≡ wrong_ends bytes before (get_or ends i 0 ∷ drop (i + 1) ends)
turn bytes before i ends h = rw (drop-cons ends i 0 h, add-one i)

pub returns-then-ends-slot_count : goal.returns-then-ends-slot_count
unfolding ends_fault
returns-then-ends-slot_count c = c.refuse.ensures ∙ sym (simp (ne_eqb _ _ c.if-ends-slot_count.true))

pub returns-then-is_wrong_end : goal.returns-then-is_wrong_end
unfolding ends_fault
returns-then-is_wrong_end c =
    let a = c.args in
    let l = c.loop-end in
    let wrong = l.invariant ∙ turn _ l.before l.end-index a.ends.now (omega arith) in
    c.refuse-then-is_wrong_end.ensures ∙ sym (simp (eq-eqb _ _ c.if-ends-slot_count.false, wrong, sym c.if-is_wrong_end.ensures))

pub loop-end-preserved : goal.loop-end-preserved
loop-end-preserved c =
    let l = c.loop-end in
    l.invariant ∙ turn _ l.before l.end-index c.args.ends.now (omega arith) ∙ simp (sym c.if-is_wrong_end.ensures)

pub returns : goal.returns
unfolding ends_fault
returns c =
    let l = c.loop-end in
    sym (simp (eq-eqb _ _ c.if-ends-slot_count.false, l.invariant, drop_of_length-le c.args.ends.now {i = l.end-index} (omega arith)))
