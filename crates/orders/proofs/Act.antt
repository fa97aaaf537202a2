-- The order after a list of interchanges, and the orders on the way; those of Heap's method are within the first n positions, and n! - 1.
use mathlib.Core.Path.{◌≡◌, refl, ap, ◌∙◌}
use Prim.Native.Nat.{ℕ, zero, suc, ◌+◌, ◌*◌, ◌%◌, ◌≤◌, ◌<◌}
use native.Mathlib.Omega.{arith}
use mathlib.Core.List.{List, [], ◌∷◌, ◌++◌, map}
use mathlib.Core.Bool.{Bool, true, false, cond}
use lib.ListN.{length, length-append}
use lib.Dec.{eqb}
use Rattle.permutation.specs.declared.Swap.{Swap}
use Rattle.orders.specs.Lists.{swapped, factorial, OrderOf}
use Rattle.orders.specs.Heap.{interchange, laps, heap}
use Rattle.orders.proofs.Lists.{length-swapped, swapped-append, order-swapped, order-refl, order_trans}

-- the order after the interchanges
unfoldable pub act : List Swap → List ℕ → List ℕ
act [] l = l
act (w ∷ s) l = act s (swapped w.0 w.1 l)

-- the order before the interchanges, and after each
unfoldable pub visits : List Swap → List ℕ → List (List ℕ)
visits [] l = l ∷ []
visits (w ∷ s) l = l ∷ visits s (swapped w.0 w.1 l)

-- every position is below n
abbrev pub Within : List Swap → ℕ → Type 0
Within [] n = Unit {0}
Within (w ∷ s) n = (w.0 < n) × (w.1 < n) × Within s n

-- positions below n are below all that is no less
pub within_more : (s : List Swap) (n m : ℕ) → n ≤ m → Within s n → Within s m
within_more [] n m h w = tt
within_more (p ∷ s) n m h w = (omega arith, omega arith, within_more s n m h w.2)

within-append : (s t : List Swap) (n : ℕ) → Within s n → Within t n → Within (s ++ t) n
within-append [] t n v w = w
within-append (p ∷ s) t n v w = (v.0, v.1, within-append s t n v.2 w)

within-swapped : (s : List Swap) (a b : ℕ) (l : List ℕ) → Within s (length l) → Within s (length (swapped a b l))
within-swapped s a b l w = rw (length-swapped l a b) w

-- the order after interchanges and others after them is that after the others, from that after the first
pub act-append : (s t : List Swap) (l : List ℕ) → act (s ++ t) l ≡ act t (act s l)
unfolding act
act-append [] t l = refl
act-append (p ∷ s) t l = act-append s t (swapped p.0 p.1 l)

-- and the orders on the way are those of the first, and then those of the others
pub visits-append : (s : List Swap) (p : Swap) (t : List Swap) (l : List ℕ) → visits (s ++ p ∷ t) l ≡ visits s l ++ visits t (swapped p.0 p.1 (act s l))
unfolding visits act
visits-append [] p t l = refl
visits-append (q ∷ s) p t l = ap (λ (r : List (List ℕ)). l ∷ r) (visits-append s p t (swapped q.0 q.1 l))

-- interchanges in the first of two lists leave the second
pub visits-onto : (s : List Swap) (l z : List ℕ) → Within s (length l) → visits s (l ++ z) ≡ map (λ y. y ++ z) (visits s l)
unfolding visits
visits-onto [] l z w = refl
visits-onto (p ∷ s) l z w =
    ap (λ (r : List (List ℕ)). (l ++ z) ∷ r)
    (ap (visits s) (swapped-append l z p.0 p.1 w.0 w.1) ∙ visits-onto s (swapped p.0 p.1 l) z (within-swapped s p.0 p.1 l w.2))

-- interchanges make an order of the list
pub order-act : (s : List Swap) (l : List ℕ) → Within s (length l) → OrderOf l (act s l)
unfolding act
order-act [] l w = order-refl l
order-act (p ∷ s) l w =
    order_trans (order-swapped l p.0 p.1 w.0 w.1) (order-act s (swapped p.0 p.1 l) (within-swapped s p.0 p.1 l w.2))

-- an interchange of the object at m is with one at 0 or at k
pub interchange-lt : (m k n : ℕ) → k < n → (interchange m k).0 < n
interchange-lt m k n h = go (eqb (suc m % 2) 1)
  where
    go : (t : Bool) → cond t 0 k < n
    go true = omega arith
    go false = h

within-laps : (s : List Swap) (m c k : ℕ) → k + c ≤ m → Within s m → Within (laps s m c k) (suc m)
unfolding laps
within-laps s m zero k h w = tt
within-laps s m (suc c) k h w = (
  interchange-lt m k (suc m) (omega arith),
  omega arith,
  within-append s (laps s m c (suc k)) (suc m) (within_more s m (suc m) (omega arith) w) (within-laps s m c (suc k) (omega arith) w),
)

-- the interchanges for n objects are within the first n positions
pub within-heap : (n : ℕ) → Within (heap n) n
unfolding heap
within-heap zero = tt
within-heap (suc m) =
    within-append (heap m) (laps (heap m) m m 0) (suc m) (within_more (heap m) m (suc m) (omega arith) (within-heap m))
    (within-laps (heap m) m m 0 (omega arith) (within-heap m))

length-laps : (s : List Swap) (m c k : ℕ) → length (laps s m c k) ≡ c * suc (length s)
unfolding laps
length-laps s m zero k = omega arith
length-laps s m (suc c) k = omega (arith, length-append s (laps s m c (suc k)), length-laps s m c (suc k))

-- the interchanges for n objects are n! - 1
pub length-heap : (n : ℕ) → suc (length (heap n)) ≡ factorial n
unfolding heap factorial
length-heap zero = refl
length-heap (suc m) =
    ap suc (length-append (heap m) (laps (heap m) m m 0)) ∙ omega (arith, length-laps (heap m) m m 0) ∙ ap (λ (f : ℕ). suc m * f) (length-heap m)
