-- The laps at an even position m of 4 or more: read as a ring, the order turns by one in each lap, so that each number comes to m in turn.
use mathlib.Core.Path.{◌≡◌, refl, ap, ◌∙◌}
use Prim.Native.Nat.{ℕ, suc, ◌+◌, ◌%◌, ◌≤◌, ◌<◌}
use native.Mathlib.Omega.{arith}
use borrow.Author.Tests.{eq-eqb}
use mathlib.Core.List.{List, [], ◌∷◌, ◌++◌, reverse, append_assoc, reverse-cons, reverse-reverse}
use lib.ListN.{length, get_or, drop, length-append, length-drop, length-reverse, get_or-append}
use lib.Seq.{drop-cons, drop-append-le}
use Rattle.permutation.specs.declared.Swap.{Swap}
use Rattle.orders.specs.Lists.{swapped, times}
use Rattle.orders.specs.Heap.{interchange, laps}
use Rattle.orders.proofs.Lists.{swapped_at, outer, times-append, times-reverse}
use Rattle.orders.proofs.Act.{act}
use Rattle.orders.proofs.Laps.{Exchanges, Turns, Lapped, lapped-as, lapped-last, lapped-more}

-- the ring h, a, r, q, N is the order a, N, q, r, h: what stands before h in the order, from what stands after h in the ring
front : List ℕ → List ℕ
front R = get_or R 0 0 ∷ (drop 3 R ++ get_or R 2 0 ∷ get_or R 1 0 ∷ [])

module _ (R : List ℕ) (three : 3 ≤ length R) where
  length_front : length (front R) ≡ length R
  unfolding front
  length_front = simp (length-append, length-drop) (omega arith)

  front-snoc : (p : ℕ) → front (R ++ p ∷ []) ≡ get_or R 0 0 ∷ (drop 3 R ++ p ∷ get_or R 2 0 ∷ get_or R 1 0 ∷ [])
  unfolding front
  front-snoc p =
      let i : (j : ℕ) → j < 3 → get_or (R ++ p ∷ []) j 0 ≡ get_or R j 0 = λ j q. get_or-append R (p ∷ []) 0 j (omega arith) in
      rw (i 0 (omega arith), i 1 (omega arith), i 2 (omega arith), drop-append-le 3 R (p ∷ []) three, append_assoc)

  front-cons : (h : ℕ) → front (h ∷ R) ≡ h ∷ get_or R 2 0 ∷ (drop 3 R ++ get_or R 1 0 ∷ get_or R 0 0 ∷ [])
  unfolding front
  front-cons h = rw (drop-cons R 2 0 three)

module _ (s : List Swap) (m : ℕ) (even : m % 2 ≡ 0) (four : 4 ≤ m) (net : Turns s m) where
  -- each interchange is with the number at 0, and the ring's last comes to its front
  lap : (R z : List ℕ) (h p k : ℕ) → suc (length R) ≡ m → swapped (interchange m k).0 m (act s (front (R ++ p ∷ []) ++ h ∷ z)) ≡ front (h ∷ R) ++ p ∷ z
  lap R z h p k l =
      let n = net (get_or R 0 0) p (get_or R 2 0) (get_or R 1 0) (drop 3 R) (h ∷ z) (rw length-drop (omega arith)) in
      let t = swapped_at [] (get_or R 2 0 ∷ (drop 3 R ++ get_or R 1 0 ∷ get_or R 0 0 ∷ [])) z p h 0 m refl (simp (length-append, length-drop) (omega arith)) in
      rw (eq-eqb (suc m % 2) 1 (omega arith), front-snoc R (omega arith) p, front-cons R (omega arith) h)
      (simp append_assoc (rw n (simp append_assoc at t)))

  long : (R : List ℕ) → length R ≡ m → length (front R) ≡ m
  long R e = length_front R (omega arith) ∙ e

  -- W is still to come to the front, from its head on, and then a
  walk : (W U z : List ℕ) (a h k : ℕ) → suc (length U + length W) ≡ m
      → Lapped s m (suc (length W)) k (front (U ++ a ∷ reverse W) ++ h ∷ z) (act s (front (reverse W ++ h ∷ U) ++ a ∷ z)) (h ∷ (W ++ a ∷ []))
  walk [] U z a h k l =
      lapped-more s m k (front (U ++ a ∷ [])) z h refl (long _ (simp length-append (omega arith)))
      (lap U z h a k (omega arith))
      (lapped-last s m (suc k) (front (h ∷ U)) z a refl (long _ (omega arith)) refl)
  walk (w ∷ W) U z a h k l =
      rw (reverse-cons w W, append_assoc (reverse W) (w ∷ []) (h ∷ U))
      (lapped-more s m k (front (U ++ a ∷ (reverse W ++ w ∷ []))) z h refl (long _ (simp (length-append, length-reverse) (omega arith)))
      (simp append_assoc at (lap (U ++ a ∷ reverse W) z h w k (simp (length-append, length-reverse) (omega arith))))
      (walk W (h ∷ U) z a w (suc k) (omega arith)))

  turn-all : (T z : List ℕ) (a e : ℕ) → suc (length T) ≡ m → Lapped s m m 0 (front (a ∷ T) ++ e ∷ z) (act s (front (T ++ e ∷ []) ++ a ∷ z)) (a ∷ (T ++ e ∷ []))
  unfolding times
  turn-all T z a e l =
      let w : Lapped s m (suc (length T)) 0 (front (a ∷ T) ++ e ∷ z) (act s (front (T ++ e ∷ []) ++ a ∷ z)) (e ∷ (reverse T ++ a ∷ [])) =
      rw (reverse-reverse, length-reverse) at (walk (reverse T) [] z a e 0 (rw length-reverse (omega arith))) in
      rw l at (lapped-as (a ∷ (T ++ e ∷ [])) (λ v. omega (arith, times-append v (reverse T) (a ∷ []), times-reverse v T, times-append v T (e ∷ []))) w)

  -- all laps interchange the first and the one at m, and each number stands at m as often as in the order
  pub laps-even : (a e : ℕ) (M z : List ℕ) → length M + 1 ≡ m → Lapped s m m 0 (a ∷ (M ++ e ∷ z)) (e ∷ (M ++ a ∷ z)) (a ∷ (M ++ e ∷ []))
  unfolding front times
  laps-even a e M z h = go (outer M (omega arith))
    where
      go : (n : ℕ) × (N : List ℕ) × (q : ℕ) × (r : ℕ) × (M ≡ n ∷ (N ++ q ∷ r ∷ [])) → Lapped s m m 0 (a ∷ (M ++ e ∷ z)) (e ∷ (M ++ a ∷ z)) (a ∷ (M ++ e ∷ []))
      go (n, N, q, r, i) =
          let l : length N + 4 ≡ m = omega (arith, simp length-append at (ap length i)) in
          let t = turn-all (r ∷ q ∷ n ∷ N) z a e (omega arith) in
          let w : ((N ++ e ∷ []) ++ n ∷ q ∷ []) ++ a ∷ z ≡ N ++ e ∷ n ∷ q ∷ a ∷ z = simp append_assoc in
          rw i
          (record {
            net = t.net ∙ ap (λ (y : List ℕ). act s (r ∷ y)) w ∙ net r e n q N (a ∷ z) l ∙ simp append_assoc;
            ends = λ v. t.ends v ∙ omega (arith, times-append v N (e ∷ []), times-append v (N ++ q ∷ r ∷ []) (e ∷ []), times-append v N (q ∷ r ∷ []));
          })

  -- so their net effect is that of an odd position
  pub exchanges : Exchanges (s ++ laps s m m 0) (suc m)
  exchanges a b M z h = (laps-even a b M z (omega arith)).net
