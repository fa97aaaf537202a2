-- Laws of `laid`: two lists, one element more, the length where all are as long.
use mathlib.Core.Path.{◌≡◌, refl, sym, ◌∙◌}
use Prim.Native.Nat.{ℕ, ◌+◌, ◌*◌, ◌<◌}
use mathlib.Core.List.{List, [], ◌∷◌, ◌++◌, append_assoc, append-nil}
use native.Mathlib.Omega.{arith}
use native.Mathlib.Numerals.{add-one}
use lib.ListN.{length, get_or, take, length-append}
use lib.Seq.{take-suc}
use Rattle.lists.specs.Laid.{laid}

module _ {A : Type 0} (f : A → List ℕ) where
  pub laid_none : [] ≡ laid f []
  unfolding laid
  laid_none = refl

  pub laid-append : (l m : List A) → laid f (l ++ m) ≡ laid f l ++ laid f m
  unfolding laid
  laid-append [] m = refl
  laid-append (x ∷ l) m = rw (laid-append l m) (sym (append_assoc (f x) (laid f l) (laid f m)))

  laid_one : (x : A) → laid f (x ∷ []) ≡ f x
  unfolding laid
  laid_one x = append-nil (f x)

  pub laid-step : (l : List A) (i : ℕ) (z : A) → i < length l → laid f (take (i + 1) l) ≡ laid f (take i l) ++ f (get_or l i z)
  laid-step l i z h = rw (add-one i, take-suc l i z h, laid-append (take i l) (get_or l i z ∷ []), laid_one (get_or l i z)) refl

  pub laid-length : (k : ℕ) → ((x : A) → length (f x) ≡ k) → (l : List A) → length (laid f l) ≡ k * length l
  unfolding laid
  laid-length k each [] = omega arith
  laid-length k each (x ∷ l) = length-append (f x) (laid f l) ∙ rw (each x, laid-length k each l) (omega arith)
