-- Laws of `padded`: its length, what stands in front and behind, and one element more.
use mathlib.Core.Path.{◌≡◌, refl, ap}
use Prim.Native.Nat.{ℕ, zero, suc, ◌≤◌, ◌<◌}
use mathlib.Core.List.{List, [], ◌∷◌, ◌++◌}
use native.Mathlib.Nat.{not-suc-le-zero, le_of_suc-le-suc}
use native.Mathlib.Omega.{arith}
use lib.ListN.{length, set, take, drop, replicate}
use Rattle.lists.specs.Padded.{padded}

module _ {A : Type 0} (z : A) where
  pub padded-length : (n : ℕ) (l : List A) → length (padded z n l) ≡ n
  unfolding padded
  padded-length zero l = refl
  padded-length (suc n) [] = ap suc (padded-length n [])
  padded-length (suc n) (x ∷ l) = ap suc (padded-length n l)

  -- with nothing in front
  pub padded-none : (n : ℕ) → padded z n [] ≡ replicate n z
  unfolding padded
  padded-none zero = refl
  padded-none (suc n) = ap (λ (t : List A). z ∷ t) (padded-none n)

  -- with nothing else in front
  pub padded-same : (n k : ℕ) → k ≤ n → padded z n (replicate k z) ≡ replicate n z
  unfolding padded
  padded-same n zero h = padded-none n
  padded-same zero (suc k) h = absurd (not-suc-le-zero h)
  padded-same (suc n) (suc k) h = ap (λ (t : List A). z ∷ t) (padded-same n k (le_of_suc-le-suc h))

  -- the list stands in front
  pub padded-front : (n : ℕ) (l : List A) → length l ≤ n → take (length l) (padded z n l) ≡ l
  unfolding padded
  padded-front n [] h = refl
  padded-front zero (x ∷ l) h = absurd (not-suc-le-zero h)
  padded-front (suc n) (x ∷ l) h = ap (λ (t : List A). x ∷ t) (padded-front n l (le_of_suc-le-suc h))

  -- as do the elements of a list of that many
  pub padded-take : (n m : ℕ) (l : List A) → length l ≡ m → m ≤ n → take m (padded z n l) ≡ l
  padded-take n m l e h = rw (← e) (padded-front n l (omega arith))

  -- another list as long before the same padding
  pub padded-other : (n : ℕ) (l m : List A) → length m ≡ length l → length l ≤ n → m ++ drop (length l) (padded z n l) ≡ padded z n m
  unfolding padded
  padded-other n [] [] e h = refl
  padded-other n [] (y ∷ m) e h = absurd (let f : suc (length m) ≡ 0 = e in omega arith)
  padded-other n (x ∷ l) [] e h = absurd (let f : 0 ≡ suc (length l) = e in omega arith)
  padded-other zero (x ∷ l) (y ∷ m) e h = absurd (not-suc-le-zero h)
  padded-other (suc n) (x ∷ l) (y ∷ m) e h = ap (λ (t : List A). y ∷ t) (padded-other n l m (omega (arith, e)) (le_of_suc-le-suc h))

  -- one element more
  pub padded-more : (n : ℕ) (l : List A) (x : A) → length l < n → set (padded z n l) (length l) x ≡ padded z n (l ++ (x ∷ []))
  unfolding padded
  padded-more zero l x h = absurd (not-suc-le-zero h)
  padded-more (suc n) [] x h = refl
  padded-more (suc n) (y ∷ l) x h = ap (λ (t : List A). y ∷ t) (padded-more n l x (le_of_suc-le-suc h))
