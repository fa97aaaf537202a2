-- The interchanges for m objects visit each order once: by induction on m, since each object stands last in one lap.
use mathlib.Core.Path.{◌≡◌, refl, sym, ap, ◌∙◌, subst}
use Prim.Native.Nat.{ℕ, zero, suc, ◌+◌, ◌≤◌, ◌<◌}
use native.Mathlib.Omega.{arith}
use native.Mathlib.Decide.{ℕ_discrete}
use borrow.Author.Tests.{eq-eqb, ne_eqb}
use mathlib.Core.List.{List, [], ◌∷◌, ◌++◌, map, append-nil}
use lib.ListN.{length, get_or, take, length-append}
use lib.Seq.{length-take-le, take_all}
use lib.Dec.{eqb}
use Rattle.permutation.specs.declared.Swap.{Swap}
use Rattle.orders.specs.Lists.{swapped, times, one, OrderOf}
use Rattle.orders.specs.Heap.{interchange, laps, heap}
use Rattle.orders.proofs.Lists.{order-swapped, order_trans, snoc, times-append}
use Rattle.orders.specs.Times.{same, times_in}
use Rattle.orders.proofs.Counts.{holds-yes, times_in-append, times_in-other, times_in-last}
use Rattle.orders.proofs.Act.{act, visits, Within, within_more, within-heap, interchange-lt, visits-onto, visits-append, order-act}
use Rattle.orders.proofs.Laps.{ends_of}
use Rattle.orders.proofs.Net.{ends-heap}

-- no number stands in it twice
abbrev Distinct : List ℕ → Type 0
Distinct x = (v : ℕ) → times v x ≤ 1

-- an order whose last number is left off
order-front : (f g : List ℕ) (l : ℕ) → OrderOf (f ++ l ∷ []) (g ++ l ∷ []) → OrderOf f g
order-front f g l o = record {
  long = omega (arith, o.long, length-append f (l ∷ []), length-append g (l ∷ []));
  each = λ v. omega (arith, o.each v, times-append v f (l ∷ []), times-append v g (l ∷ []));
}

module _ (s : List Swap) (m : ℕ) (w : Within s m) (ih : (x y : List ℕ) → length x ≡ m → Distinct x → OrderOf x y → times_in y (visits s x) ≡ 1) where
  -- one lap visits an order once if the lap has the order's last number last, and not at all otherwise
  lap-at : (f g : List ℕ) (l v : ℕ) → length f ≡ m → Distinct (f ++ l ∷ []) → OrderOf (f ++ l ∷ []) (g ++ v ∷ [])
      → times_in (g ++ v ∷ []) (visits s (f ++ l ∷ [])) ≡ one (eqb v l)
  lap-at f g l v e d o = ap (times_in (g ++ v ∷ [])) (visits-onto s f (l ∷ []) (rw e w)) ∙ go (ℕ_discrete v l)
    where
      go : Dec (v ≡ l) → times_in (g ++ v ∷ []) (map (λ z. z ++ l ∷ []) (visits s f)) ≡ one (eqb v l)
      go (no n) = times_in-other g v l (visits s f) n ∙ sym (ap one (ne_eqb v l n))
      go (yes q) =
          let o' : OrderOf (f ++ l ∷ []) (g ++ l ∷ []) = subst (λ (k : ℕ). OrderOf (f ++ l ∷ []) (g ++ k ∷ [])) q o in
          rw (eq-eqb v l q)
          (ap (λ (k : ℕ). times_in (g ++ k ∷ []) (map (λ z. z ++ l ∷ []) (visits s f))) q ∙ times_in-last g l (visits s f) ∙
          ih f g e (λ u. omega (arith, d u, times-append u f (l ∷ []))) (order-front f g l o'))

  lap : (x g : List ℕ) (v : ℕ) → length x ≡ suc m → Distinct x → OrderOf x (g ++ v ∷ []) → times_in (g ++ v ∷ []) (visits s x) ≡ one (eqb v (get_or x m 0))
  lap x g v e d o =
      let q : x ≡ take m x ++ get_or x m 0 ∷ [] = snoc x m e in
      ap (λ (z : List ℕ). times_in (g ++ v ∷ []) (visits s z)) q ∙
      lap-at (take m x) g (get_or x m 0) v (length-take-le m x (omega arith)) (subst Distinct q d) (subst (λ (z : List ℕ). OrderOf z (g ++ v ∷ [])) q o)

  -- the laps visit it as often as its last number stands last in one
  laps-all : (c k : ℕ) → k + c ≤ m → (x g : List ℕ) (v : ℕ) → length x ≡ suc m → Distinct x → OrderOf x (g ++ v ∷ [])
      → times_in (g ++ v ∷ []) (visits (s ++ laps s m c k) x) ≡ times v (ends_of s m c k x)
  unfolding laps ends_of times
  laps-all zero k h x g v e d o = ap (λ (t : List Swap). times_in (g ++ v ∷ []) (visits t x)) (append-nil s) ∙ lap x g v e d o ∙ omega arith
  laps-all (suc c) k h x g v e d o =
      let y : List ℕ = swapped (interchange m k).0 m (act s x) in
      let p : OrderOf x (act s x) = order-act s x (rw e (within_more s m (suc m) (omega arith) w)) in
      let i : (interchange m k).0 < length (act s x) = rw (p.long, e) (interchange-lt m k (suc m) (omega arith)) in
      let q : OrderOf x y = order_trans p (order-swapped (act s x) (interchange m k).0 m i (omega arith)) in
      let o' : OrderOf y (g ++ v ∷ []) = record { long = o.long ∙ sym q.long; each = λ u. o.each u ∙ sym (q.each u) } in
      let r = laps-all c (suc k) (omega arith) y g v (q.long ∙ e) (λ u. omega (arith, d u, q.each u)) o' in
      ap (times_in (g ++ v ∷ [])) (visits-append s (interchange m k) (s ++ laps s m c (suc k)) x) ∙
      times_in-append (g ++ v ∷ []) (visits s x) (visits (s ++ laps s m c (suc k)) y) ∙ omega (arith, lap x g v e d o, r)

  once_more : ((x : List ℕ) → length x ≡ suc m → (v : ℕ) → times v (ends_of s m m 0 x) ≡ times v x)
      → (x y : List ℕ) → length x ≡ suc m → Distinct x → OrderOf x y → times_in y (visits (s ++ laps s m m 0) x) ≡ 1
  unfolding times
  once_more ends x y e d o =
      let v : ℕ = get_or y m 0 in
      let q : y ≡ take m y ++ v ∷ [] = snoc y m (o.long ∙ e) in
      let t : times v y ≡ times v (take m y) + (one (eqb v v) + 0) = ap (times v) q ∙ times-append v (take m y) (v ∷ []) in
      ap (λ (z : List ℕ). times_in z (visits (s ++ laps s m m 0) x)) q ∙ laps-all m 0 (omega arith) x (take m y) v e d (subst (OrderOf x) q o) ∙
      omega (arith, ends x e v, t, ap one (eq-eqb v v refl), o.each v, d v)

-- the interchanges for n objects visit each order of a list of n different numbers once
pub once : (n : ℕ) (x y : List ℕ) → length x ≡ n → ((v : ℕ) → times v x ≤ 1) → OrderOf x y → times_in y (visits (heap n) x) ≡ 1
unfolding heap visits times_in
once zero x y e d o =
    let nil : (z : List ℕ) → length z ≡ 0 → [] ≡ z = λ z l. take_all 0 z (omega arith) in
    omega (arith, holds-yes (same y x) (sym (nil y (o.long ∙ e)) ∙ nil x e))
once (suc m) x y e d o = once_more (heap m) m (within-heap m) (once m) (ends-heap m) x y e d o
