-- A list of all assignments that make the statements facts, none twice, is determined up to order. So rows that mean one query are the same
-- rows, each as often, and it does not matter which plan of which sound order is evaluated.
use mathlib.Core.Path.{◌≡◌, refl, sym, ap, ◌∙◌}
use Prim.Native.Nat.{ℕ, zero, suc, ◌≤◌}
use native.Mathlib.Omega.{arith}
use native.Mathlib.Nat.{not-suc-le-zero}
use mathlib.Core.List.{List, [], ◌∷◌, ◌++◌, map, map-append}
use Rattle.orders.specs.Times.{same, times_in}
use Rattle.orders.proofs.Counts.{holds-yes, holds-no, times_in-append}
use Rattle.query.specs.declared.Query.{Query}
use Rattle.query.specs.Query.{selects_of}
use Rattle.visits.specs.Visits.{Tables}
use Rattle.meaning.specs.Demand.{Answers, through, Meaning}

-- two lists that hold the same assignments, none twice, hold each as often
pub determined : {ts : Tables} {q : Query} {l m : List (List ℕ)} → Answers ts q l → Answers ts q m → (a : List ℕ) → times_in a l ≡ times_in a m
determined {ts} {q} {l} {m} x y a = go (times_in a l) refl (times_in a m) refl
  where
    go : (i : ℕ) → times_in a l ≡ i → (j : ℕ) → times_in a m ≡ j → times_in a l ≡ times_in a m
    go zero p zero q = p ∙ sym q
    go (suc i) p j q = omega (arith, x.none_twice a, y.none_twice a, y.every a (x.only a (omega arith)))
    go zero p (suc j) q = omega (arith, x.none_twice a, y.none_twice a, x.every a (y.only a (omega arith)))

-- a list that stands among others parts them
abbrev Parts : List ℕ → List (List ℕ) → Type 0
Parts x m = (u : List (List ℕ)) × (w : List (List ℕ)) × (m ≡ u ++ (x ∷ w))

parted : (x : List ℕ) (m : List (List ℕ)) → 1 ≤ times_in x m → Parts x m
unfolding times_in
parted x [] h = absurd (not-suc-le-zero h)
parted x (y ∷ m) h = go (parted x m) (same x y)
  where
    go : (1 ≤ times_in x m → Parts x m) → Dec (x ≡ y) → Parts x (y ∷ m)
    go r (yes e) = ([], m, ap (λ (z : List ℕ). z ∷ m) (sym e))
    go r (no n) =
        let p = r (omega (arith, h, holds-no (same x y) n)) in
        (y ∷ p.0, p.1, ap (λ (l : List (List ℕ)). y ∷ l) p.2)

-- lists that hold the same as often have images that do
images-same : (f : List ℕ → List ℕ) (y : List ℕ) (l m : List (List ℕ)) → ((a : List ℕ) → times_in a l ≡ times_in a m) → times_in y (map f l) ≡ times_in y (map f m)
unfolding times_in
images-same f y [] [] h = refl
images-same f y [] (x ∷ m) h = absurd (omega (arith, h x, holds-yes (same x x) refl))
images-same f y (x ∷ l) m h = go (images-same f y l) (parted x m (omega (arith, h x, holds-yes (same x x) refl)))
  where
    go : ((z : List (List ℕ)) → ((a : List ℕ) → times_in a l ≡ times_in a z) → times_in y (map f l) ≡ times_in y (map f z)) → Parts x m → times_in y (map f (x ∷ l)) ≡ times_in y (map f m)
    go r (u, w, e) =
        let rest : (a : List ℕ) → times_in a l ≡ times_in a (u ++ w) =
        λ a. omega (arith, h a, ap (times_in a) e, times_in-append a u (x ∷ w), times_in-append a u w) in
        let i = r (u ++ w) rest ∙ ap (times_in y) (map-append f u w) ∙ times_in-append y (map f u) (map f w) in
        let j = ap (λ (z : List (List ℕ)). times_in y (map f z)) e ∙ ap (times_in y) (map-append f u (x ∷ w)) ∙ times_in-append y (map f u) (map f (x ∷ w)) in
        omega (arith, i, j)

pub same_rows : {ts : Tables} {q : Query} {r r' : List (List ℕ)} → Meaning ts q r → Meaning ts q r' → (y : List ℕ) → times_in y r ≡ times_in y r'
same_rows {ts} {q} {r} {r'} a b y =
    ap (times_in y) a.rows_are ∙
    images-same (through (selects_of q)) y a.assignments b.assignments (determined a.answers b.answers) ∙ sym (ap (times_in y) b.rows_are)
