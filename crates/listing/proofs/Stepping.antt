-- What is still to be done by a loop that steps scans in place, from scan i on.
use mathlib.Core.Path.{◌≡◌}
use Prim.Native.Nat.{ℕ, suc, ◌+◌, ◌≤◌, ◌<◌}
use mathlib.Core.List.{List, ◌∷◌, ◌++◌, append-nil}
use mathlib.Core.Bool.{true, false}
use native.Mathlib.Numerals.{add-one}
use native.Mathlib.Omega.{arith}
use lib.ListN.{length, get_or, take, drop, set, drop_of_length-le}
use lib.Seq.{take_all, append_snoc, take-suc-set, drop-set-lt, drop-cons, set_split}
use Rattle.plan.specs.declared.Scan.{Scan}
use Rattle.plan.specs.Plan.{zero_scan}
use Rattle.listing.specs.Next.{is_new_index, next_scan, next_scans, is_new_scans}

-- the scans where the first i have been stepped, and the others are still to be
abbrev pub stepped_from : List Scan → ℕ → List Scan
stepped_from xs i = take i xs ++ next_scans (drop i xs)

module _ (xs : List Scan) (i : ℕ) (h : i < length xs) (v : Scan) (e : v ≡ next_scan (get_or xs i zero_scan)) where
  left : drop i xs ≡ get_or xs i zero_scan ∷ drop (i + 1) xs
  left = rw add-one (drop-cons xs i zero_scan h)

  -- scan i is new, and the scans after it stay
  module _ (t : is_new_index (get_or xs i zero_scan).flow (get_or xs i zero_scan).index ≡ true) where
    pub new-steps : stepped_from xs i ≡ set xs i v
    unfolding next_scans
    new-steps = simp (left, t, ← e, set_split xs i v h, add-one)

    pub new-says : is_new_scans (drop i xs) ≡ true
    unfolding is_new_scans
    new-says = simp (left, t)

  -- scan i wraps, and the next one is stepped
  module _ (t : is_new_index (get_or xs i zero_scan).flow (get_or xs i zero_scan).index ≡ false) where
    pub wraps-steps : stepped_from xs i ≡ stepped_from (set xs i v) (i + 1)
    unfolding next_scans
    wraps-steps =
        let m : i < suc i = omega arith in
        simp (left, t, ← e, add-one, take-suc-set xs i v h, drop-set-lt (suc i) xs i v m, append_snoc)

    pub wraps-says : is_new_scans (drop i xs) ≡ is_new_scans (drop (i + 1) (set xs i v))
    unfolding is_new_scans
    wraps-says =
        let m : i < suc i = omega arith in
        simp (left, t, add-one, drop-set-lt (suc i) xs i v m)

-- every scan has been stepped
module _ (xs : List Scan) (i : ℕ) (h : length xs ≤ i) where
  pub end-steps : stepped_from xs i ≡ xs
  unfolding next_scans
  end-steps = simp (drop_of_length-le xs h, take_all i xs h, append-nil)

  pub end-says : is_new_scans (drop i xs) ≡ false
  unfolding is_new_scans
  end-says = simp (drop_of_length-le xs h)
