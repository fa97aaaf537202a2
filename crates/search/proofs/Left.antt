-- How many steps are left where a step says each time whether it gave something new: what falls as the search goes on.
use mathlib.Core.Path.{◌≡◌, refl, ap}
use Prim.Native.Nat.{ℕ, zero, suc, ◌≤◌}
use mathlib.Core.List.{List, [], ◌∷◌}
use mathlib.Core.Bool.{Bool, cond}
use native.Mathlib.Nat.{not-suc-le-zero, le_of_suc-le-suc}
use lib.ListN.{length}
use Rattle.permutation.specs.declared.Permutations.{Permutations}
use Rattle.permutation.specs.declared.Swap.{Swap}
use Rattle.permutation.specs.Swaps.{next_swap_of}
use Rattle.orders.specs.Listing.{answer_at, answer_in}
use Rattle.orders.proofs.Machine.{Follows}
use Rattle.listing.proofs.Circle.{Run}

module _ {A : Type 0} (step : A → A) (isNew : A → Bool) where
  -- at most k of them
  unfoldable pub steps_left : ℕ → A → ℕ
  steps_left zero x = 0
  steps_left (suc k) x = cond (isNew x) (suc (steps_left k (step x))) 0

  pub run-left : (w x : A) (xs : List A) (k : ℕ) → Run step isNew w x xs → length xs ≤ k → steps_left k x ≡ length xs
  unfolding steps_left
  run-left w x [] zero r h = refl
  run-left w x [] (suc k) r h = rw r.0
  run-left w x (y ∷ ys) zero r h = absurd (not-suc-le-zero h)
  run-left w x (y ∷ ys) (suc k) r h = rw (r.0, r.1) (ap suc (run-left w y ys k r.2 (le_of_suc-le-suc h)))

-- the same for swaps
abbrev pub swaps_left : ℕ → Permutations → ℕ
swaps_left = steps_left (λ s. (next_swap_of s).state) (λ s. (next_swap_of s).next.is_some)

pub swaps-left : (p : Permutations) (s : List Swap) (k : ℕ) → Follows p s → length s ≤ k → swaps_left k p ≡ length s
unfolding steps_left answer_at answer_in
swaps-left p [] zero f h = refl
swaps-left p [] (suc k) f h = rw (f 0)
swaps-left p (w ∷ s) zero f h = absurd (not-suc-le-zero h)
swaps-left p (w ∷ s) (suc k) f h = rw (f 0) (ap suc (swaps-left (next_swap_of p).state s k (λ t. f (suc t)) (le_of_suc-le-suc h)))
