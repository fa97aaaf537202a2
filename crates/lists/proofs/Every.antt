-- Laws of `Every`: from each place, from another property, from two, of a list in two parts.
use Prim.Native.Nat.{ℕ, suc, ◌<◌}
use mathlib.Core.List.{List, [], ◌∷◌, ◌++◌}
use native.Mathlib.Omega.{arith}
use lib.ListN.{length, get_or}
use Rattle.lists.specs.Every.{Every}

module _ {A : Type 0} where
  pub every_of : (P : A → Type 0) (d : A) (xs : List A) → ((j : ℕ) → j < length xs → P (get_or xs j d)) → Every P xs
  every_of P d [] h = tt
  every_of P d (x ∷ xs) h = (h 0 (omega arith), every_of P d xs (λ j k. h (suc j) (omega arith)))

  pub every_map : (P Q : A → Type 0) → ((x : A) → P x → Q x) → (xs : List A) → Every P xs → Every Q xs
  every_map P Q f [] a = tt
  every_map P Q f (x ∷ xs) a = (f x a.0, every_map P Q f xs a.1)

  pub every-and : (P Q R : A → Type 0) → ((x : A) → P x → Q x → R x) → (xs : List A) → Every P xs → Every Q xs → Every R xs
  every-and P Q R f [] a b = tt
  every-and P Q R f (x ∷ xs) a b = (f x a.0 b.0, every-and P Q R f xs a.1 b.1)

  pub every_append : (P : A → Type 0) (l m : List A) → Every P l → Every P m → Every P (l ++ m)
  every_append P [] m a b = b
  every_append P (x ∷ l) m a b = (a.0, every_append P l m a.1 b)

  pub every_front : (P : A → Type 0) (l m : List A) → Every P (l ++ m) → Every P l
  every_front P [] m a = tt
  every_front P (x ∷ l) m a = (a.0, every_front P l m a.1)

  pub every-behind : (P : A → Type 0) (l m : List A) → Every P (l ++ m) → Every P m
  every-behind P [] m a = a
  every-behind P (x ∷ l) m a = every-behind P l m a.1
