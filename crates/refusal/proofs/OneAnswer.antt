-- 01, "What every promise must say": no second answer fits a promise that is an equation.
use mathlib.Core.Path.{◌≡◌, sym, ◌∙◌}

-- two answers that both equal what a definition says are equal
pub one_answer : {A : Type 0} {said x y : A} → x ≡ said → y ≡ said → x ≡ y
one_answer p q = p ∙ sym q
