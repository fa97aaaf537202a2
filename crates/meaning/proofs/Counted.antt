-- How often a list stands in lists made from others: as a sum over what they are made from.
use mathlib.Core.Path.{◌≡◌, refl, sym, ap, ◌∙◌}
use mathlib.Core.Bool.{Bool, true, false, cond}
use mathlib.Core.List.{List, [], ◌∷◌, map, map-append}
use Prim.Native.Nat.{ℕ, zero, suc, ◌+◌, ◌≤◌, ◌<◌}
use native.Mathlib.Omega.{arith}
use native.Mathlib.Nat.{not-suc-le-zero}
use native.Mathlib.Decide.{ℕ_discrete}
use Rattle.orders.specs.Times.{same, holds, times_in}
use Rattle.orders.proofs.Counts.{holds-yes, holds-no, times_in-append}
use Rattle.search.proofs.Arranged.{sum}
use Rattle.lists.specs.Span.{span}
use Rattle.tables.specs.Rows.{keep}
use Rattle.visits.specs.Visits.{each}

-- a list stands in the lists of each number as often as in all of them together
pub times-each : (y : List ℕ) (g : List ℕ → List ℕ) (ks : List ℕ) (h : ℕ → List (List ℕ))
    → times_in y (map g (each ks h)) ≡ sum (λ k. times_in y (map g (h k))) ks
unfolding each sum times_in
times-each y g [] h = refl
times-each y g (k ∷ ks) h =
    ap (times_in y) (map-append g (h k) (each ks h)) ∙ times_in-append y (map g (h k)) (map g (each ks h)) ∙
    ap (λ (m : ℕ). times_in y (map g (h k)) + m) (times-each y g ks h)

module _ (f : ℕ → ℕ) (p : ℕ → Bool) where
  -- the sum over the kept numbers from s + 1 on, and with s
  abbrev Rest : ℕ → ℕ → ℕ
  Rest s n = sum f (keep p (span (s + 1) n))

  abbrev With : Bool → ℕ → ℕ → ℕ
  With b s n = sum f (cond b (s ∷ keep p (span (s + 1) n)) (keep p (span (s + 1) n)))

  -- a sum over kept numbers that are all counted 0
  sum-none : (s n : ℕ) → ((j : ℕ) → s ≤ j → j < s + n → p j ≡ true → f j ≡ 0) → sum f (keep p (span s n)) ≡ 0
  unfolding sum keep span
  sum-none s zero h = refl
  sum-none s (suc n) h = go (sum-none (s + 1) n (λ j l g. h j (omega arith) (omega arith))) (p s) refl
    where
      go : Rest s n ≡ 0 → (b : Bool) → p s ≡ b → With b s n ≡ 0
      go rest true e = omega (arith, rest, h s (omega arith) (omega arith) e)
      go rest false e = rest

  -- where one is counted 1 and the others 0
  pub sum_one : (s n k : ℕ) → s ≤ k → k < s + n → p k ≡ true → f k ≡ 1
      → ((j : ℕ) → s ≤ j → j < s + n → p j ≡ true → (j ≡ k → ⊥) → f j ≡ 0) → sum f (keep p (span s n)) ≡ 1
  unfolding sum keep span
  sum_one s zero k l g e o h = absurd (omega arith)
  sum_one s (suc n) k l g e o h =
      go (λ q. sum_one (s + 1) n k (omega arith) (omega arith) e o (λ j m r. h j (omega arith) (omega arith))) (ℕ_discrete s k)
    where
      here : s ≡ k → Rest s n ≡ 0
      here q = sum-none (s + 1) n (λ j m r t. h j (omega arith) (omega arith) t (λ z. omega arith))

      other : (s ≡ k → ⊥) → Rest s n ≡ 1 → (b : Bool) → p s ≡ b → With b s n ≡ 1
      other q rest true t = omega (arith, rest, h s (omega arith) (omega arith) t q)
      other q rest false t = rest

      go : ((s ≡ k → ⊥) → Rest s n ≡ 1) → Dec (s ≡ k) → With (p s) s n ≡ 1
      go rest (yes q) = rw (ap p q ∙ e) (omega (arith, here q, ap f q))
      go rest (no q) = other q (rest q) (p s) refl

  -- and a sum that is not 0 counts one of them
  abbrev Counts : ℕ → ℕ → Type 0
  Counts s n = (k : ℕ) × (s ≤ k) × (k < s + n) × (p k ≡ true) × (1 ≤ f k)

  pub sum-some : (s n : ℕ) → 1 ≤ sum f (keep p (span s n)) → Counts s n
  unfolding sum keep span
  sum-some s zero h = absurd (not-suc-le-zero h)
  sum-some s (suc n) h = go (λ r. later (sum-some (s + 1) n r)) (p s) refl h
    where
      later : Counts (s + 1) n → Counts s (suc n)
      later w = (w.0, omega (arith, w.1), omega (arith, w.2), w.3, w.4)

      here : p s ≡ true → (m : ℕ) → f s ≡ m → 1 ≤ f s + Rest s n → (1 ≤ Rest s n → Counts s (suc n)) → Counts s (suc n)
      here e zero z r rest = rest (omega arith)
      here e (suc m) z r rest = (s, omega arith, omega arith, e, omega arith)

      go : (1 ≤ Rest s n → Counts s (suc n)) → (b : Bool) → p s ≡ b → 1 ≤ With b s n → Counts s (suc n)
      go rest true e r = here e (f s) refl r rest
      go rest false e r = rest r

-- a list stands among the images of others if it is the image of one of them
abbrev Image : (List ℕ → List ℕ) → List ℕ → List (List ℕ) → Type 0
Image f b l = (z : List ℕ) × (1 ≤ times_in z l) × (f z ≡ b)

pub image-of : (f : List ℕ → List ℕ) (b : List ℕ) (l : List (List ℕ)) → 1 ≤ times_in b (map f l) → Image f b l
unfolding times_in
image-of f b [] h = absurd (not-suc-le-zero h)
image-of f b (x ∷ l) h = go (image-of f b l) (same b (f x))
  where
    go : (1 ≤ times_in b (map f l) → Image f b l) → Dec (b ≡ f x) → Image f b (x ∷ l)
    go rest (yes e) = (x, omega (arith, holds-yes (same x x) refl), sym e)
    go rest (no n) = let r = rest (omega (arith, h, holds-no (same b (f x)) n)) in (r.0, omega (arith, r.1), r.2)

-- and as often as that one, where no other of them has that image
pub times-image : (f : List ℕ → List ℕ) (y : List ℕ) (l : List (List ℕ)) → ((z : List ℕ) → 1 ≤ times_in z l → f z ≡ f y → z ≡ y)
    → times_in (f y) (map f l) ≡ times_in y l
unfolding times_in
times-image f y [] h = refl
times-image f y (x ∷ l) h = omega (arith, times-image f y l (λ z t. h z (omega arith)), here (same y x) refl)
  where
    here : (d : Dec (y ≡ x)) → same y x ≡ d → holds (same (f y) (f x)) ≡ holds (same y x)
    here (yes e) q = holds-yes (same (f y) (f x)) (ap f e) ∙ sym (holds-yes (same y x) e)
    here (no n) q =
        holds-no (same (f y) (f x)) (λ e. n (sym (h x (omega (arith, holds-yes (same x x) refl)) (sym e)))) ∙ sym (holds-no (same y x) n)
