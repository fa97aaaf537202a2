-- Parts of a list, and what stands past the counted elements.
use mathlib.Core.Path.{◌≡◌, sym, ap, ◌∙◌}
use mathlib.Core.Logic.{⊎_elim}
use mathlib.Core.List.{List}
use Prim.Native.Nat.{ℕ, ◌-◌, ◌≤◌, ◌<◌, min}
use native.Mathlib.Nat.{eq-or-lt_of_le, min-le_left}
use native.Mathlib.Omega.{arith}
use lib.ListN.{length, take, drop, drop_of_length-le, length-drop}
use lib.Seq.{take_all, take-nil}

-- the part of a list between two places, and the same where these are not within the list
pub part-clipped : (from to : ℕ) (l : List ℕ) → take (min to (length l) - min from (min to (length l))) (drop (min from (min to (length l))) l) ≡ take (to - from) (drop from l)
part-clipped from to l =
    let long : length (drop from l) ≡ length l - from = length-drop from l in
    let inside : min from (min to (length l)) ≡ from → take (min to (length l) - min from (min to (length l))) (drop (min from (min to (length l))) l) ≡ take (to - from) (drop from l) =
    λ e. ap (λ (n : ℕ). take (min to (length l) - n) (drop n l)) e ∙ ⊎_elim (λ (same : min to (length l) ≡ to). ap (λ (n : ℕ). take (n - from) (drop from l)) same)
    (λ (past : min to (length l) < to). take_all (min to (length l) - from) (drop from l) (omega arith) ∙ sym (take_all (to - from) (drop from l) (omega arith)))
    (eq-or-lt_of_le (min-le_left to (length l))) in
    let empty : min from (min to (length l)) < from → take (min to (length l) - min from (min to (length l))) (drop (min from (min to (length l))) l) ≡ take (to - from) (drop from l) =
    λ h.
    let none : min to (length l) - min from (min to (length l)) ≡ 0 = omega arith in
    ap (λ (n : ℕ). take n (drop (min from (min to (length l))) l)) none ∙ ⊎_elim (λ (same : min to (length l) ≡ to). let z : to - from ≡ 0 = omega arith in sym (ap (λ (n : ℕ). take n (drop from l)) z))
    (λ (past : min to (length l) < to). let gone : length l ≤ from = omega arith in sym (ap (take (to - from)) (drop_of_length-le l gone) ∙ take-nil (to - from)))
    (eq-or-lt_of_le (min-le_left to (length l))) in
    ⊎_elim inside empty (eq-or-lt_of_le (min-le_left from (min to (length l))))
