-- Places in lists, and where a plan stands among those weighed: the plans of the orders before its own come first, then those of its own
-- order as listed.
use mathlib.Core.Path.{◌≡◌, refl, sym, ◌∙◌}
use mathlib.Core.Logic.{◌⊎◌, inl, inr, ⊎_elim}
use mathlib.Core.Bool.{Bool, true, false}
use mathlib.Core.List.Memᴰ
use mathlib.Core.List.{List, [], ◌∷◌, map, Memᴰ}
use Prim.Native.Nat.{ℕ, zero, suc, ◌+◌, ◌-◌, ◌≤◌, ◌<◌, suc-le-suc}
use native.Mathlib.Nat.{not-suc-le-zero, le_of_suc-le-suc}
use native.Mathlib.Omega.{arith}
use lib.ListN.{length, get_or, length-append, length-map, get_or-append, get_or-map}
use lib.Seq.{get_or-append-add}
use Rattle.query.specs.declared.Statement.{Statement}
use Rattle.plan.specs.declared.Scan.{Scan}
use Rattle.planner.specs.Planning.{scans_for}
use Rattle.listing.specs.Listing.{combinations}
use Rattle.search.specs.Search.{Candidate, arranged, is_sound, weighed, candidates_of, candidates}
use Rattle.tables.proofs.Order.{lt-or-ge}

-- a member stands at a place, and what stands at a place is a member
pub member-at : {A : Type 0} (l : List A) (x : A) → Memᴰ x l → (u : ℕ) × (u < length l) × ((d : A) → get_or l u d ≡ x)
member-at [] x m = absurd (Memᴰ.not-nil m)
member-at {A} (y ∷ l) x m = go (member-at l x) (Memᴰ.cases_cons m)
  where
    go : (Memᴰ x l → (u : ℕ) × (u < length l) × ((d : A) → get_or l u d ≡ x)) → (x ≡ y) ⊎ Memᴰ x l → (u : ℕ) × (u < length (y ∷ l)) × ((d : A) → get_or (y ∷ l) u d ≡ x)
    go r (inl e) = (0, omega arith, λ d. sym e)
    go r (inr t) = let w = r t in (suc w.0, omega (arith, w.1), w.2)

pub at-member : {A : Type 0} (l : List A) (u : ℕ) (x : A) → u < length l → ((d : A) → get_or l u d ≡ x) → Memᴰ x l
at-member [] u x h e = absurd (not-suc-le-zero h)
at-member (y ∷ l) zero x h e = Memᴰ.head (sym (e y))
at-member (y ∷ l) (suc u) x h e = Memᴰ.tail (at-member l u x (le_of_suc-le-suc h) e)

pub same-default : {A : Type 0} (l : List A) (u : ℕ) (d e : A) → u < length l → get_or l u d ≡ get_or l u e
same-default [] u d e h = absurd (not-suc-le-zero h)
same-default (y ∷ l) zero d e h = refl
same-default (y ∷ l) (suc u) d e h = same-default l u d e (le_of_suc-le-suc h)

module _ (n : ℕ) (ss : List Statement) where
  -- plan number u of order number r
  unfoldable pub place : List (List ℕ) → ℕ → ℕ → ℕ
  place [] r u = u
  place (o ∷ os) zero u = u
  place (o ∷ os) (suc r) u = length (candidates_of n ss o) + place os r u

  pub place_at : (os : List (List ℕ)) (r u : ℕ) → r < length os → u < length (candidates_of n ss (get_or os r []))
      → (place os r u < length (candidates n ss os)) × ((d : Candidate) → get_or (candidates n ss os) (place os r u) d ≡ get_or (candidates_of n ss (get_or os r [])) u d)
  unfolding candidates place
  place_at [] r u h g = absurd (not-suc-le-zero h)
  place_at (o ∷ os) zero u h g =
      (omega (arith, g, length-append (candidates_of n ss o) (candidates n ss os)), λ d. get_or-append (candidates_of n ss o) (candidates n ss os) d u g)
  place_at (o ∷ os) (suc r) u h g =
      let w = place_at os r u (le_of_suc-le-suc h) g in (
        omega (arith, w.0, length-append (candidates_of n ss o) (candidates n ss os)),
        λ d. get_or-append-add (candidates_of n ss o) (candidates n ss os) (place os r u) d ∙ w.1 d,
      )

  -- every place is one of these
  pub place_of : (os : List (List ℕ)) (k : ℕ) → k < length (candidates n ss os)
      → (r : ℕ) × (u : ℕ) × (r < length os) × (u < length (candidates_of n ss (get_or os r []))) × (k ≡ place os r u)
  unfolding candidates place
  place_of [] k h = absurd (not-suc-le-zero h)
  place_of (o ∷ os) k h =
      let m = length (candidates_of n ss o) in
      ⊎_elim (λ (g : k < m). (0, k, omega arith, g, refl))
      (λ (g : m ≤ k).
      let w = place_of os (k - m) (omega (arith, h, g, length-append (candidates_of n ss o) (candidates n ss os))) in
      (suc w.0, w.1, suc-le-suc w.2, w.3, omega (arith, g, w.4)))
      (lt-or-ge k m)

  -- an earlier plan of the same order, and any of an earlier order, stands before
  pub place-steps : (os : List (List ℕ)) (r u t : ℕ) → u < t → place os r u < place os r t
  unfolding place
  place-steps [] r u t h = h
  place-steps (o ∷ os) zero u t h = h
  place-steps (o ∷ os) (suc r) u t h = omega (arith, place-steps os r u t h)

  pub place-orders : (os : List (List ℕ)) (r s u t : ℕ) → r < s → s < length os → u < length (candidates_of n ss (get_or os r [])) → place os r u < place os s t
  unfolding place
  place-orders [] r s u t l h g = absurd (not-suc-le-zero h)
  place-orders (o ∷ os) r zero u t l h g = absurd (not-suc-le-zero l)
  place-orders (o ∷ os) zero (suc s) u t l h g = omega (arith, g)
  place-orders (o ∷ os) (suc r) (suc s) u t l h g = omega (arith, place-orders os r s u t (le_of_suc-le-suc l) (le_of_suc-le-suc h) g)

  -- the plans of one order: none unless it is sound
  pub some-sound : (o : List ℕ) (u : ℕ) → u < length (candidates_of n ss o) → is_sound (arranged ss o) ≡ true
  unfolding candidates_of
  some-sound o u h = go (is_sound (arranged ss o)) refl
    where
      go : (b : Bool) → is_sound (arranged ss o) ≡ b → is_sound (arranged ss o) ≡ true
      go true e = e
      go false e = absurd (not-suc-le-zero (rw e at h))

  module _ (o : List ℕ) (sound : is_sound (arranged ss o) ≡ true) where
    abbrev plans : List (List Scan)
    plans = combinations (scans_for [] (arranged ss o) n)

    sound-candidates : candidates_of n ss o ≡ map (weighed o) plans
    unfolding candidates_of
    sound-candidates = rw sound refl

    pub candidates-long : length (candidates_of n ss o) ≡ length plans
    candidates-long = rw sound-candidates (length-map plans (weighed o))

    pub candidate-at : (u : ℕ) → get_or (candidates_of n ss o) u (weighed o []) ≡ weighed o (get_or plans u [])
    candidate-at u = rw sound-candidates (get_or-map (weighed o) plans u [])
