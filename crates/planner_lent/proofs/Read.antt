-- What a reader leaves: elements put over the front of an array of zeros are these and zeros past them, as many as it holds.
use mathlib.Core.Path.{◌≡◌, refl, sym, ap}
use Prim.Native.Nat.{ℕ, zero, suc}
use mathlib.Core.List.{List, [], ◌∷◌, ◌++◌}
use lib.ListN.{length, take, drop, replicate}
use Rattle.lists.specs.Padded.{padded}
use Rattle.lists.proofs.Padded.{padded-none}

pub front_padded : {A : Type 0} (z : A) (n : ℕ) (l : List A) → take n l ++ drop (length l) (replicate n z) ≡ padded z n l
unfolding padded
front_padded z zero [] = refl
front_padded z zero (x ∷ l) = refl
front_padded z (suc n) [] = ap (λ t. z ∷ t) (sym (padded-none z n))
front_padded z (suc n) (x ∷ l) = ap (λ t. x ∷ t) (front_padded z n l)
