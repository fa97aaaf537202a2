-- `least_from` gives the first of least cost: by induction on the candidates still to be weighed.
use mathlib.Core.Path.{◌≡◌, refl}
use Prim.Native.Nat.{ℕ, zero, suc, ◌≤◌, ◌<◌}
use native.Mathlib.Nat.{not-suc-le-zero, le_of_suc-le-suc}
use native.Mathlib.Omega.{arith}
use mathlib.Core.List.{List, [], ◌∷◌}
use mathlib.Core.Bool.{Bool, true, false, cond}
use borrow.Author.Tests.{ltb-true, ltb-false}
use lib.ListN.{length, get_or}
use lib.Dec.{ltb}
use Rattle.search.specs.Search.{Candidate, least_from}
use Rattle.search.specs.FirstLeast.{FirstLeast}

-- the later of two takes the place: it is dearer than none, and what came before it was dearer
module _ (c d : Candidate) (ds : List Candidate) (r : Candidate) where
  taken : d.cost < c.cost → FirstLeast r (d ∷ ds) → FirstLeast r (c ∷ (d ∷ ds))
  taken h f = record {
    place = suc f.place;
    within = omega (arith, f.within);
    stands = f.stands;
    least = least;
    first = first;
  }
    where
      no-dearer : r.cost ≤ d.cost
      no-dearer = f.least 0 d (omega arith)

      least : (u : ℕ) (e : Candidate) → u < length (c ∷ (d ∷ ds)) → r.cost ≤ (get_or (c ∷ (d ∷ ds)) u e).cost
      least zero e q = omega (arith, no-dearer)
      least (suc u) e q = f.least u e (le_of_suc-le-suc q)

      first : (u : ℕ) (e : Candidate) → u < suc f.place → r.cost < (get_or (c ∷ (d ∷ ds)) u e).cost
      first zero e q = omega (arith, no-dearer)
      first (suc u) e q = f.first u e (le_of_suc-le-suc q)

  -- the earlier of two stays
  stays : c.cost ≤ d.cost → FirstLeast r (c ∷ ds) → FirstLeast r (c ∷ (d ∷ ds))
  stays h f = at f.place f.within f.stands f.first
    where
      no-dearer : r.cost ≤ c.cost
      no-dearer = f.least 0 c (omega arith)

      least : (u : ℕ) (e : Candidate) → u < length (c ∷ (d ∷ ds)) → r.cost ≤ (get_or (c ∷ (d ∷ ds)) u e).cost
      least zero e q = no-dearer
      least (suc zero) e q = omega (arith, no-dearer)
      least (suc (suc u)) e q = f.least (suc u) e (le_of_suc-le-suc q)

      later : (p : ℕ) → ((u : ℕ) (e : Candidate) → u < suc p → r.cost < (get_or (c ∷ ds) u e).cost)
          → (u : ℕ) (e : Candidate) → u < suc (suc p) → r.cost < (get_or (c ∷ (d ∷ ds)) u e).cost
      later p first zero e q = first 0 e (omega arith)
      later p first (suc zero) e q = omega (arith, first 0 e (omega arith))
      later p first (suc (suc u)) e q = first (suc u) e (le_of_suc-le-suc q)

      at : (p : ℕ) → p < length (c ∷ ds) → ((e : Candidate) → get_or (c ∷ ds) p e ≡ r) → ((u : ℕ) (e : Candidate) → u < p → r.cost < (get_or (c ∷ ds) u e).cost)
          → FirstLeast r (c ∷ (d ∷ ds))
      at zero w stands first = record { place = 0; within = omega arith; stands = stands; least = least; first = λ u e q. absurd (not-suc-le-zero q) }
      at (suc p) w stands first = record { place = suc (suc p); within = omega arith; stands = stands; least = least; first = later p first }

pub least_first : (c : Candidate) (ds : List Candidate) → FirstLeast (least_from c ds) (c ∷ ds)
unfolding least_from
least_first c [] = record {
  place = 0;
  within = omega arith;
  stands = λ e. refl;
  least = least;
  first = λ u e q. absurd (not-suc-le-zero q);
}
  where
    least : (u : ℕ) (e : Candidate) → u < 1 → c.cost ≤ (get_or (c ∷ []) u e).cost
    least zero e q = omega arith
    least (suc u) e q = absurd (not-suc-le-zero (le_of_suc-le-suc q))
least_first c (d ∷ ds) = go (ltb d.cost c.cost) refl (least_first d ds) (least_first c ds)
  where
    go : (t : Bool) → ltb d.cost c.cost ≡ t → FirstLeast (least_from d ds) (d ∷ ds) → FirstLeast (least_from c ds) (c ∷ ds)
        → FirstLeast (least_from (cond t d c) ds) (c ∷ (d ∷ ds))
    go true e f g = taken c d ds (least_from d ds) (ltb-true _ _ e) f
    go false e f g = stays c d ds (least_from c ds) (ltb-false _ _ e) g
