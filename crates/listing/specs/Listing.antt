-- 01, "How a query becomes a plan": the plans listed are the initial one and each reached by a yes.
use Rattle.std.specs.Prelude.{◌≡◌, ℕ, suc, ◌*◌, ◌<◌, List, [], ◌∷◌, ◌++◌, map, Bool, true, false, length, get_or}
use Rattle.plan.specs.declared.Scan.{Scan}
use Rattle.plan.specs.declared.Index.{Index}
use Rattle.plan.specs.Plan.{same_index}
use Rattle.listing.specs.Next.{cycle, next_scans, is_new_scans}

-- a scan over another index
abbrev pub over : Scan → Index → Scan
over s x = record { index = x; flow = s.flow; entity = s.entity; attribute = s.attribute; value = s.value }

-- the scans of a scan's cycle
abbrev pub cycle_of : Scan → List Scan
cycle_of s = map (over s) (cycle s.flow s.index)

-- each of the one before each list of the other, the ones going fastest
unfoldable pub each_before : List Scan → List (List Scan) → List (List Scan)
each_before xs [] = []
each_before xs (l ∷ ls) = map (λ x. x ∷ l) xs ++ each_before xs ls

-- all combinations of the scans' cycles, scan 0 going fastest
unfoldable pub combinations : List Scan → List (List Scan)
combinations [] = [] ∷ []
combinations (s ∷ ss) = each_before (cycle_of s) (combinations ss)

-- each scan stands at the beginning of its cycle, as planning leaves it
unfoldable pub is_initial : Scan → Bool
is_initial s = begins (cycle s.flow s.index)
  where
    begins : List Index → Bool
    begins [] = false
    begins (x ∷ xs) = same_index s.index x

abbrev pub Initial : List Scan → Type 0
Initial ss = (j : ℕ) → j < length ss → (d : Scan) → is_initial (get_or ss j d) ≡ true

-- what `next` makes of initial scans: `first`: the listing begins with them; `steps`: from each but the last `next` says yes and gives the
-- one after it; `ends`: from the last it says no, and the initial ones stand again; `once`: none stands twice
pub record Listed (ss : List Scan) : Type 0 where
  pub first : get_or (combinations ss) 0 [] ≡ ss
  pub steps : (t : ℕ) → suc t < length (combinations ss)
      → (is_new_scans (get_or (combinations ss) t []) ≡ true) × (next_scans (get_or (combinations ss) t []) ≡ get_or (combinations ss) (suc t) [])
  pub ends : (t : ℕ) → suc t ≡ length (combinations ss)
      → (is_new_scans (get_or (combinations ss) t []) ≡ false) × (next_scans (get_or (combinations ss) t []) ≡ ss)
  pub once : (t u : ℕ) → t < length (combinations ss) → u < length (combinations ss) → get_or (combinations ss) t [] ≡ get_or (combinations ss) u [] → t ≡ u

-- the product of the cycles' lengths
unfoldable pub listings : List Scan → ℕ
listings [] = 1
listings (s ∷ ss) = length (cycle_of s) * listings ss
