-- In the laps of Heap's method at position m each number stands at m once: by recursion on m with the net effect, odd and even in turn.
use mathlib.Core.Path.{◌≡◌, refl, ap}
use Prim.Native.Nat.{ℕ, zero, suc, ◌+◌, ◌%◌, ◌≤◌}
use native.Mathlib.Omega.{arith}
use mathlib.Core.List.{List, [], ◌∷◌, ◌++◌, append_assoc}
use lib.ListN.{length, length-append}
use Rattle.permutation.specs.declared.Swap.{Swap}
use Rattle.orders.specs.Lists.{swapped, times}
use Rattle.orders.specs.Heap.{laps, heap}
use Rattle.orders.proofs.Lists.{outer}
use Rattle.orders.proofs.Act.{act}
use Rattle.orders.proofs.Laps.{Exchanges, Turns, ends_of}
use Rattle.orders.proofs.Odd.{laps-odd, turns}
use Rattle.orders.proofs.Even.{laps-even, exchanges}

-- the net effect of s on m positions, m at least 3
data Net (s : List Swap) (m : ℕ) : Type 0 where
  odd : 3 ≤ m → m % 2 ≡ 1 → Exchanges s m → Net s m
  even : 4 ≤ m → m % 2 ≡ 0 → Turns s m → Net s m

next : (s : List Swap) (m : ℕ) → Net s m → Net (s ++ laps s m m 0) (suc m)
next s m (odd h o n) = even (omega arith) (omega arith) (turns s m o n)
next s m (even h o n) = odd (omega arith) (omega arith) (exchanges s m o h n)

-- for every list of n numbers, written out
abbrev Spelt : ℕ → (List ℕ → Type 0) → Type 0
Spelt zero P = P []
Spelt (suc n) P = (a : ℕ) → Spelt n (λ t. P (a ∷ t))

spelt : (n : ℕ) (P : List ℕ → Type 0) → Spelt n P → (x : List ℕ) → length x ≡ n → P x
spelt zero P p [] e = p
spelt zero P p (a ∷ x) e = absurd (omega arith)
spelt (suc n) P p [] e = absurd (omega arith)
spelt (suc n) P p (a ∷ x) e = spelt n (λ t. P (a ∷ t)) (p a) x (omega arith)

net : (j : ℕ) → Net (heap (suc (suc (suc j)))) (suc (suc (suc j)))
unfolding heap laps act swapped
net zero = odd (omega arith) refl (λ a b M z h. spelt 1 (λ (t : List ℕ). act (heap 3) (a ∷ (t ++ b ∷ z)) ≡ b ∷ (t ++ a ∷ z)) (λ c. refl) M (omega arith))
net (suc j) = next (heap (suc (suc (suc j)))) (suc (suc (suc j))) (net j)

-- each number of x stands at m in as many laps as it stands in x
abbrev Ends : List Swap → ℕ → List ℕ → Type 0
Ends s m x = (v : ℕ) → times v (ends_of s m m 0 x) ≡ times v x

ends : (s : List Swap) (m : ℕ) → Net s m → (a b e : ℕ) (M : List ℕ) → length M + 2 ≡ m → Ends s m (a ∷ (M ++ b ∷ e ∷ []))
ends s m (odd h o n) a b e M l v = (laps-odd s m o n a b e M [] l).ends v
ends s m (even h o n) a b e M l v = simp append_assoc at ((laps-even s m o h n a e (M ++ b ∷ []) [] (simp length-append (omega arith))).ends v)

-- in the laps at position m each number of a list of m + 1 stands at m as often as it stands in the list
pub ends-heap : (m : ℕ) (x : List ℕ) → length x ≡ suc m → (v : ℕ) → times v (ends_of (heap m) m m 0 x) ≡ times v x
unfolding heap laps act swapped ends_of times
ends-heap zero x l = spelt 1 (Ends (heap 0) 0) (λ a v. refl) x l
ends-heap (suc zero) x l = spelt 2 (Ends (heap 1) 1) (λ a b v. omega arith) x l
ends-heap (suc (suc zero)) x l = spelt 3 (Ends (heap 2) 2) (λ a b c v. omega arith) x l
ends-heap (suc (suc (suc j))) x l = go (outer x (omega arith))
  where
    m : ℕ
    m = suc (suc (suc j))

    go : (a : ℕ) × (M : List ℕ) × (b : ℕ) × (e : ℕ) × (x ≡ a ∷ (M ++ b ∷ e ∷ [])) → Ends (heap m) m x
    go (a, M, b, e, q) = rw q (ends (heap m) m (net j) a b e M (omega (arith, simp length-append at (ap length q))))
