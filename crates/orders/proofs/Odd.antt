-- The laps at an odd position m: at m stand, in turn, the last number, the one before it, those of the middle from left to right, and the first.
use mathlib.Core.Path.{◌≡◌, refl}
use Prim.Native.Nat.{ℕ, suc, ◌+◌, ◌%◌}
use native.Mathlib.Omega.{arith}
use borrow.Author.Tests.{ne_eqb}
use mathlib.Core.List.{List, [], ◌∷◌, ◌++◌, append_assoc}
use lib.ListN.{length, length-append}
use Rattle.permutation.specs.declared.Swap.{Swap}
use Rattle.orders.specs.Lists.{swapped, times}
use Rattle.orders.specs.Heap.{interchange, laps}
use Rattle.orders.proofs.Lists.{swapped_at, times-append, rotated, rotated-snoc}
use Rattle.orders.proofs.Act.{act}
use Rattle.orders.proofs.Laps.{Exchanges, Turns, Lapped, lapped-as, lapped-last, lapped-more}

-- f where U has an even length, g where it has an odd one
alternating : List ℕ → ℕ → ℕ → ℕ
alternating [] f g = f
alternating (u ∷ U) f g = alternating U g f

alternating-odd : (U : List ℕ) (f g : ℕ) → length U % 2 ≡ 1 → alternating U f g ≡ g
unfolding alternating
alternating-odd [] f g e = absurd (omega arith)
alternating-odd (u ∷ []) f g e = refl
alternating-odd (u ∷ w ∷ U) f g e = alternating-odd U f g (omega arith)

module _ (s : List Swap) (m : ℕ) (odd : m % 2 ≡ 1) (net : Exchanges s m) where
  -- interchange number k is with the number at k
  lap : (A B z : List ℕ) {x : List ℕ} (u l k : ℕ) → length A ≡ k → suc (k + length B) ≡ m → x ≡ A ++ u ∷ (B ++ l ∷ z)
      → swapped (interchange m k).0 m x ≡ A ++ l ∷ (B ++ u ∷ z)
  lap A B z u l k p q e = rw (ne_eqb (suc m % 2) 1 (λ t. omega arith), e) (swapped_at A B z u l k m p q)

  -- the laps after the first: in each, f and g change places, l goes into the middle behind D, and the first of U comes out
  walk : (U D z : List ℕ) (f g l k : ℕ) → suc (length D) ≡ k → k + suc (length U) ≡ m
      → Lapped s m (suc (length U)) k (f ∷ (D ++ (U ++ g ∷ l ∷ z)))
      (rotated (D ++ l ∷ U) ++ alternating U g f ∷ alternating U f g ∷ z) (l ∷ (U ++ alternating U f g ∷ []))
  unfolding alternating
  walk [] D z f g l k p q =
      rw (rotated-snoc D l)
      (lapped-more s m k (f ∷ (D ++ g ∷ [])) z l (simp append_assoc) (simp length-append (omega arith))
      (lap (g ∷ D) [] z f l k p (omega arith) (net f g D (l ∷ z) (omega arith)))
      (lapped-last s m (suc k) (g ∷ (D ++ l ∷ [])) z f (simp append_assoc) (simp length-append (omega arith)) (net g l D (f ∷ z) (omega arith))))
  walk (u ∷ U) D z f g l k p q =
      let t : act s (f ∷ (D ++ u ∷ (U ++ g ∷ l ∷ z))) ≡ g ∷ (D ++ u ∷ ((U ++ f ∷ []) ++ l ∷ z)) =
      simp append_assoc (simp append_assoc at (net f g (D ++ u ∷ U) (l ∷ z) (simp length-append (omega arith)))) in
      lapped-more s m k (f ∷ (D ++ u ∷ (U ++ g ∷ []))) z l (simp append_assoc) (simp length-append (omega arith))
      (simp append_assoc at (lap (g ∷ D) (U ++ f ∷ []) z u l k p (simp length-append (omega arith)) t))
      (simp append_assoc at (walk U (D ++ l ∷ []) z g f u (suc k) (simp length-append (omega arith)) (omega arith)))

  -- after all laps the one before m and the middle stand rotated in front, and each number stood at m as often as in the order
  pub laps-odd : (a b e : ℕ) (M z : List ℕ) → length M + 2 ≡ m → Lapped s m m 0 (a ∷ (M ++ b ∷ e ∷ z)) (rotated (b ∷ M) ++ e ∷ a ∷ z) (a ∷ (M ++ b ∷ e ∷ []))
  unfolding times
  laps-odd a b e M z h =
      let c : suc (suc (length M)) ≡ m = omega arith in
      let t : act s (a ∷ (M ++ b ∷ e ∷ z)) ≡ b ∷ ((M ++ a ∷ []) ++ e ∷ z) = simp append_assoc (net a b M (e ∷ z) h) in
      let r : (f g : ℕ) → alternating M f g ≡ g = λ f g. alternating-odd M f g (omega arith) in
      let w : Lapped s m (suc (suc (length M))) 0 (a ∷ (M ++ b ∷ e ∷ z)) (rotated (b ∷ M) ++ e ∷ a ∷ z) (e ∷ b ∷ (M ++ a ∷ [])) =
      lapped-more s m 0 (a ∷ (M ++ b ∷ [])) z e (simp append_assoc) (simp length-append (omega arith))
      (simp append_assoc at (lap [] (M ++ a ∷ []) z b e 0 refl (simp length-append (omega arith)) t))
      (rw (r a e, r e a) at (walk M [] z e a b 1 refl (omega arith))) in
      rw c at (lapped-as (a ∷ (M ++ b ∷ e ∷ [])) (λ v. omega (arith, times-append v M (b ∷ e ∷ []), times-append v M (a ∷ []))) w)

  -- so their net effect is that of an even position
  pub turns : Turns (s ++ laps s m m 0) (suc m)
  turns a p q r M z h = simp append_assoc at (rw (rotated-snoc (q ∷ M) p) at (laps-odd a q r (M ++ p ∷ []) z (simp length-append (omega arith))).net)
