-- Distinct rows that all stand among others are no more than these, and if they are as many, all of these: one by one each is taken out.
use mathlib.Core.Path.{◌≡◌, refl, sym, ap, ◌∙◌}
use mathlib.Core.Bool.{Bool, true, false, not, ◌&&◌, ◌||◌, cond, false≢true, or-true}
use mathlib.Core.List.{List, [], ◌∷◌}
use Prim.Native.Nat.{ℕ, suc, ◌≤◌}
use native.Mathlib.Omega.{arith}
use lib.ListN.{length}
use lib.Dec.{eqb}
use borrow.Author.Tests.{eqb-true, eq-eqb, not-true}
use Rattle.tables.specs.Check.{same_row, is_among}
use Rattle.tables.proofs.Order.{no-yes, both}

pub same-equal : (x y : List ℕ) → same_row x y ≡ true → x ≡ y
unfolding same_row
same-equal [] [] e = refl
same-equal [] (y ∷ ys) e = absurd (false≢true e)
same-equal (x ∷ xs) [] e = absurd (false≢true e)
same-equal (x ∷ xs) (y ∷ ys) e =
    let b = both (eqb x y) (same_row xs ys) e in
    let p = eqb-true x y b.0 in
    let q = same-equal xs ys b.1 in
    cc

same_self : (x : List ℕ) → same_row x x ≡ true
unfolding same_row
same_self [] = refl
same_self (x ∷ xs) = simp (eq-eqb x x refl, same_self xs)

pub equal-same : (x y : List ℕ) → x ≡ y → same_row x y ≡ true
equal-same x y e = rw e (same_self y)

-- no row is the same as a later one
unfoldable pub distinct : List (List ℕ) → Bool
distinct [] = true
distinct (x ∷ xs) = not (is_among x xs) && distinct xs

-- what is among some rows is among others
abbrev pub Within : List (List ℕ) → List (List ℕ) → Type 0
Within xs ys = (z : List ℕ) → is_among z xs ≡ true → is_among z ys ≡ true

-- rows without the first that is x
without : List ℕ → List (List ℕ) → List (List ℕ)
without x [] = []
without x (y ∷ ys) = cond (same_row x y) ys (y ∷ without x ys)

swap : (a b c : Bool) → (a || (b || c)) ≡ (b || (a || c))
swap true b c = sym (or-true b)
swap false b c = refl

module _ (x : List ℕ) where
  without-length : (ys : List (List ℕ)) → is_among x ys ≡ true → suc (length (without x ys)) ≡ length ys
  unfolding without is_among
  without-length [] h = absurd (false≢true h)
  without-length (y ∷ ys) h = go (same_row x y) refl (without-length ys)
    where
      go : (b : Bool) → same_row x y ≡ b → (is_among x ys ≡ true → suc (length (without x ys)) ≡ length ys)
          → suc (length (without x (y ∷ ys))) ≡ suc (length ys)
      go true e rest = rw e
      go false e rest = rw e (ap suc (rest (rw e at h)))

  without-among : (z : List ℕ) (ys : List (List ℕ)) → is_among x ys ≡ true → is_among z ys ≡ (same_row z x || is_among z (without x ys))
  unfolding without is_among
  without-among z [] h = absurd (false≢true h)
  without-among z (y ∷ ys) h = go (same_row x y) refl (without-among z ys)
    where
      go : (b : Bool) → same_row x y ≡ b → (is_among x ys ≡ true → is_among z ys ≡ (same_row z x || is_among z (without x ys)))
          → (same_row z y || is_among z ys) ≡ (same_row z x || is_among z (without x (y ∷ ys)))
      go true e rest = let p = same-equal x y e in rw (e, p)
      go false e rest = rw (e, rest (rw e at h)) (swap (same_row z y) (same_row z x) (is_among z (without x ys)))

module _ (x : List ℕ) (xs ys : List (List ℕ)) (d : distinct (x ∷ xs) ≡ true) (w : Within (x ∷ xs) ys) where
  rest-distinct : (is_among x xs ≡ false) × (distinct xs ≡ true)
  unfolding distinct
  rest-distinct = let b = both (not (is_among x xs)) (distinct xs) d in (not-true (is_among x xs) b.0, b.1)

  first_in : is_among x ys ≡ true
  unfolding is_among
  first_in = w x (simp (same_self x))

  rest_in : Within xs (without x ys)
  unfolding is_among
  rest_in z h = go (same_row z x) refl
    where
      go : (b : Bool) → same_row z x ≡ b → is_among z (without x ys) ≡ true
      go true e = let p = same-equal z x e in no-yes rest-distinct.0 (rw p at h)
      go false e = simp e at (sym (without-among x z ys first_in) ∙ w z (simp (h, or-true)))

-- distinct rows among others are no more than these
pub few : (xs ys : List (List ℕ)) → distinct xs ≡ true → Within xs ys → length xs ≤ length ys
few [] ys d w = omega arith
few (x ∷ xs) ys d w =
    let l = few xs (without x ys) (rest-distinct x xs ys d w).1 (rest_in x xs ys d w) in
    omega (arith, without-length x ys (first_in x xs ys d w))

-- and if they are as many, all of these are among them
pub full : (xs ys : List (List ℕ)) → distinct xs ≡ true → Within xs ys → length ys ≤ length xs → Within ys xs
unfolding is_among
full [] [] d w l z h = h
full [] (y ∷ ys) d w l z h = absurd (omega arith)
full (x ∷ xs) ys d w l z h =
    let rest = full xs (without x ys) (rest-distinct x xs ys d w).1 (rest_in x xs ys d w) (omega (arith, without-length x ys (first_in x xs ys d w))) z in
    go (same_row z x) rest (sym (without-among x z ys (first_in x xs ys d w)) ∙ h)
  where
    go : (b : Bool) → (is_among z (without x ys) ≡ true → is_among z xs ≡ true) → (b || is_among z (without x ys)) ≡ true → (b || is_among z xs) ≡ true
    go true rest e = refl
    go false rest e = rest e
