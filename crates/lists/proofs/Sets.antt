-- Elements written over others from a place on, as far as the list reaches.
use mathlib.Core.Path.{◌≡◌, refl, ap, ◌∙◌}
use mathlib.Core.List.{List, [], ◌∷◌, ◌++◌}
use Prim.Native.Nat.{ℕ, suc, ◌+◌, ◌≤◌}
use native.Mathlib.Nat.{add-zero}
use native.Mathlib.Omega.{arith}
use lib.ListN.{length, set}
use lib.Seq.{sets, set_out}

module _ {A : Type 0} where
  -- one piece after the other
  pub sets-append : (p q l : List A) (i : ℕ) → sets l i (p ++ q) ≡ sets (sets l i p) (i + length p) q
  sets-append [] q l i = rw (add-zero i)
  sets-append (a ∷ p) q l i =
      let e : suc i + length p ≡ i + suc (length p) = omega arith in
      sets-append p q (set l i a) (suc i) ∙ ap (λ (n : ℕ). sets (sets (set l i a) (suc i) p) n q) e

  -- from the end of the list on nothing is written
  pub sets-past : (p l : List A) (i : ℕ) → length l ≤ i → sets l i p ≡ l
  sets-past [] l i h = refl
  sets-past (a ∷ p) l i h = rw (set_out l i a h) (sets-past p l (suc i) (omega arith))
