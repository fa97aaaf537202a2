-- The laps at a position m: their net effect, and what stands at m in each, put together lap by lap.
use mathlib.Core.Path.{◌≡◌, ap, ◌∙◌}
use Prim.Native.Nat.{ℕ, zero, suc, ◌+◌}
use mathlib.Core.List.{List, [], ◌∷◌, ◌++◌, append-nil}
use lib.ListN.{length, get_or}
use lib.Seq.{get_or_at}
use Rattle.permutation.specs.declared.Swap.{Swap}
use Rattle.orders.specs.Lists.{swapped, times}
use Rattle.orders.specs.Heap.{interchange, laps}
use Rattle.orders.proofs.Act.{act, act-append}

-- what stands at m in the lap at hand, which goes through the orders of the first m by s, and in each of the c after it, of which
-- the first begins with interchange number k
unfoldable pub ends_of : List Swap → ℕ → ℕ → ℕ → List ℕ → List ℕ
ends_of s m zero k x = get_or x m 0 ∷ []
ends_of s m (suc c) k x = get_or x m 0 ∷ ends_of s m c (suc k) (swapped (interchange m k).0 m (act s x))

-- from x these laps lead to y, and the numbers at m are those of e, each as often
pub record Lapped (s : List Swap) (m c k : ℕ) (x y e : List ℕ) : Type 0 where
  pub net : act (s ++ laps s m c k) x ≡ y
  pub ends : (v : ℕ) → times v (ends_of s m c k x) ≡ times v e

module _ (s : List Swap) (m k : ℕ) {x : List ℕ} (A z : List ℕ) (h : ℕ) (split : x ≡ A ++ h ∷ z) (long : length A ≡ m) where
  at-m : get_or x m 0 ≡ h
  at-m = ap (λ (t : List ℕ). get_or t m 0) split ∙ get_or_at A h z 0 m long

  -- the lap at hand, with h at m, and none after it
  pub lapped-last : {y : List ℕ} → act s x ≡ y → Lapped s m 0 k x y (h ∷ [])
  unfolding laps ends_of
  lapped-last p = record { net = rw append-nil p; ends = λ v. rw at-m }

  -- the lap at hand, with h at m, and those after it
  pub lapped-more : {c : ℕ} {x' y e : List ℕ} → swapped (interchange m k).0 m (act s x) ≡ x' → Lapped s m c (suc k) x' y e → Lapped s m (suc c) k x y (h ∷ e)
  unfolding laps ends_of act times
  lapped-more {c = c} p r = record {
    net = act-append s (laps s m (suc c) k) x ∙ ap (act (s ++ laps s m c (suc k))) p ∙ r.net;
    ends = λ v. rw (at-m, p, r.ends v);
  }

-- the numbers at m in another order
pub lapped-as : {s : List Swap} {m c k : ℕ} {x y e : List ℕ} (e' : List ℕ) → ((v : ℕ) → times v e ≡ times v e') → Lapped s m c k x y e → Lapped s m c k x y e'
lapped-as e' q r = record { net = r.net; ends = λ v. r.ends v ∙ q v }

-- the net effect of s on m positions is that the first and the last are interchanged
abbrev pub Exchanges : List Swap → ℕ → Type 0
Exchanges s m = (a b : ℕ) (M z : List ℕ) → length M + 2 ≡ m → act s (a ∷ (M ++ b ∷ z)) ≡ b ∷ (M ++ a ∷ z)

-- the net effect of s on m positions is that the first goes to the end, and the two before the last go to the front
abbrev pub Turns : List Swap → ℕ → Type 0
Turns s m = (a p q r : ℕ) (M z : List ℕ) → length M + 4 ≡ m → act s (a ∷ (M ++ p ∷ q ∷ r ∷ z)) ≡ p ∷ q ∷ (M ++ r ∷ a ∷ z)
