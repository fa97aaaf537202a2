-- Each scan that planning makes stands at the beginning of its cycle: each of the four scans that it chooses from does.
use mathlib.Core.Path.{◌≡◌, refl}
use Prim.Native.Nat.{ℕ, zero, suc, ◌+◌}
use mathlib.Core.List.{List, [], ◌∷◌, ◌++◌}
use mathlib.Core.Bool.{Bool, true, false}
use native.Mathlib.Nat.{not-suc-le-zero, le_of_suc-le-suc}
use Rattle.datom.specs.declared.Aid.{Aid}
use Rattle.query.specs.declared.Statement.{Statement}
use Rattle.query.specs.Query.{named}
use Rattle.query_check.specs.Refusals.{constants_in}
use Rattle.plan.specs.declared.Slot.{Slot}
use Rattle.planner.specs.Planning.{slot_of, value_slot, is_value_set, scan_for, scan_of, scans_for}
use Rattle.listing.specs.Listing.{is_initial, Initial}

choice-initial : (x y : Bool) (e : Slot) (a : Aid) (v : Slot) → is_initial (scan_for x y e a v) ≡ true
unfolding is_initial
choice-initial true true e a v = refl
choice-initial false true e a v = refl
choice-initial true false e a v = refl
choice-initial false false e a v = refl

-- the scans of statements
pub scans-initial : (before ss : List Statement) (k : ℕ) → Initial (scans_for before ss k)
unfolding scans_for scan_of
scans-initial before [] k j h d = absurd (not-suc-le-zero h)
scans-initial before (s ∷ ss) k zero h d =
    choice-initial (named before s.entity.0) (is_value_set before s.value) (slot_of s.entity) s.attribute (value_slot s.value k)
scans-initial before (s ∷ ss) k (suc j) h d = scans-initial (before ++ (s ∷ [])) ss (k + constants_in s.value) j (le_of_suc-le-suc h) d
