-- Walks over the first n elements of a list, from the front: how a loop over an array with a count meets a definition by recursion on a list.
use mathlib.Core.Path.{◌≡◌}
use Prim.Native.Nat.{ℕ, zero, suc, ◌+◌, ◌≤◌, ◌<◌}
use mathlib.Core.List.{List, [], ◌∷◌, map, map-append}
use native.Mathlib.Nat.{le_of_suc-le-suc}
use native.Mathlib.Numerals.{add-one}
use native.Mathlib.Omega.{arith}
use lib.ListN.{length, set, get_or, take, drop, drop_of_length-le}
use lib.Seq.{take-suc, take-suc-set, drop-cons, get_or-take, length-take-le}

module _ {A : Type 0} (l : List A) (n : ℕ) (fits : n ≤ length l) where
  -- what is left from i on begins with element i
  pub walk_step : (d : A) (i : ℕ) → i < n → drop i (take n l) ≡ get_or l i d ∷ drop (i + 1) (take n l)
  walk_step d i h =
      let k : i < length (take n l) = simp length-take-le (omega arith) in
      rw (add-one, ← (get_or-take n l i d h)) (drop-cons (take n l) i d k)

  -- from n on nothing is left
  pub walk_end : (i : ℕ) → n ≤ i → drop i (take n l) ≡ []
  walk_end i h =
      let k : length (take n l) ≤ i = simp length-take-le (omega arith) in
      drop_of_length-le (take n l) k

-- what holds of 0, and of one more than each number below n, holds of each below n + 1
pub each : (P : ℕ → Type 0) (n : ℕ) → P 0 → ((j : ℕ) → j < n → P (suc j)) → (j : ℕ) → j < suc n → P j
each P n p q zero h = p
each P n p q (suc j) h = q j (le_of_suc-le-suc h)

-- a list filled from the front with what f makes of another's elements, one element on
pub map-step : {A B : Type 0} (f : A → B) (xs : List A) (ys : List B) (i : ℕ) (d : A) (v : B) → i < length xs → i < length ys
    → v ≡ f (get_or xs i d) → take i ys ≡ map f (take i xs) → take (i + 1) (set ys i v) ≡ map f (take (i + 1) xs)
map-step f xs ys i d v hx hy e p = rw (add-one, take-suc-set, take-suc xs i d, map-append, p, e)
