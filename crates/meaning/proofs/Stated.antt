-- The scans of statements state, in slots that hold an assignment and then the constants, what the statements are under that assignment.
use mathlib.Core.Path.{◌≡◌, refl, ap, ◌∙◌}
use mathlib.Core.Bool.{Bool, true, false, ◌&&◌}
use mathlib.Core.List.{List, [], ◌∷◌, ◌++◌, map}
use Prim.Native.Nat.{ℕ, suc, ◌+◌, ◌<◌, suc-le-suc}
use native.Mathlib.Nat.{add-zero}
use native.Mathlib.Omega.{arith}
use lib.ListN.{length, get_or}
use Rattle.datom.specs.declared.Aid.{Aid}
use Rattle.query.specs.declared.QueryValue.{QueryValue}
use Rattle.query.specs.declared.QueryValue.TheVariants.{Const, Var as Variable}
use Rattle.query.specs.declared.Statement.{Statement}
use Rattle.query_check.specs.Refusals.{constants_in, constants}
use Rattle.query_check.specs.Below.{ValueBelow, Below}
use Rattle.plan.specs.declared.Slot.{Slot}
use Rattle.plan.specs.declared.Scan.{Scan}
use Rattle.plan.specs.declared.SlotRecord.{SlotRecord}
use Rattle.query.specs.Query.{named}
use Rattle.planner.specs.Planning.{slot_of, constant_slots, slots_of_constants, value_slot, is_value_set, scan_for, scan_of, scans_for}
use Rattle.listing.proofs.SameAccesses.{SameAccesses, SameScans, none, more}
use Rattle.visits.specs.Visits.{Tables, wanted, start_value}
use Rattle.meaning.specs.Demand.{is_fact, value_under, stated, are_facts}
use Rattle.meaning.proofs.Row.{same-fact}
use Rattle.meaning.proofs.Finals.{scan_facts}

-- the values of the statements' constants, in order
abbrev pub constants_of : List Statement → List ℕ
constants_of ss = map (λ (s : SlotRecord). start_value s.definition) (slots_of_constants ss)

-- each of the four scans has the entity, attribute and value that it is chosen for
choice-wanted : (x y : Bool) (e : Slot) (a : Aid) (v : Slot) (slots : List ℕ)
    → wanted (scan_for x y e a v) slots ≡ record { entity = get_or slots e.0 0; attribute = a.0; value = get_or slots v.0 0 }
choice-wanted true true e a v slots = refl
choice-wanted true false e a v slots = refl
choice-wanted false true e a v slots = refl
choice-wanted false false e a v slots = refl

-- a scan that does the same states the same
accesses-wanted : (s t : Scan) → SameAccesses s t → (slots : List ℕ) → wanted t slots ≡ wanted s slots
accesses-wanted s t a slots = rw (a.entities, a.attributes, a.values)

and_same : {a b c d : Bool} → a ≡ b → c ≡ d → (a && c) ≡ (b && d)
and_same p q = rw (p, q)

module _ (n : ℕ) (slots a : List ℕ) (assigned : (x : ℕ) → x < n → get_or slots x 0 ≡ get_or a x 0) where
  -- from slot k on the constants of the statements stand
  abbrev Holds : List ℕ → ℕ → ℕ → Type 0
  Holds l c k = (j : ℕ) → j < c → get_or slots (k + j) 0 ≡ get_or l j 0

  value-stated : (v : QueryValue) (k : ℕ) → ValueBelow n v → (l : List Statement) → Holds (map (λ (s : SlotRecord). start_value s.definition) (constant_slots v ++ slots_of_constants l)) (constants_in v + constants l) k
      → (get_or slots (value_slot v k).0 0 ≡ value_under a v) × Holds (constants_of l) (constants l) (k + constants_in v)
  value-stated (Const c) k b l h =
      (rw add-zero at (h 0 (omega arith)), λ j g. let e : k + suc j ≡ k + 1 + j = omega arith in rw e at (h (suc j) (omega arith)))
  value-stated (Variable x) k b l h = (assigned x.0 b, λ j g. let e : k + 0 + j ≡ k + j = omega arith in rw e (h j (omega arith)))

  statement-stated : (before : List Statement) (s : Statement) (k : ℕ) → s.entity.0 < n → get_or slots (value_slot s.value k).0 0 ≡ value_under a s.value
      → wanted (scan_of before s k) slots ≡ stated a s
  unfolding scan_of
  statement-stated before s k b e =
      choice-wanted (named before s.entity.0) (is_value_set before s.value) (slot_of s.entity) s.attribute (value_slot s.value k) slots ∙
      same-fact (assigned s.entity.0 b) refl e

  pub scans-stated : (ts : Tables) (before l : List Statement) (k : ℕ) (scans : List Scan) → SameScans (scans_for before l k) scans
      → ((j : ℕ) (d : Statement) → j < length l → Below n (get_or l j d)) → Holds (constants_of l) (constants l) k
      → scan_facts ts scans slots ≡ are_facts ts l a
  unfolding scans_for scan_facts are_facts constants slots_of_constants
  scans-stated ts before [] k scans none b h = refl
  scans-stated ts before (s ∷ l) k scans (more {t = t} r m) b h =
      let low = b 0 s (omega arith) in
      let v = value-stated s.value k low.value_below l h in
      let w : wanted t slots ≡ stated a s = accesses-wanted (scan_of before s k) t r slots ∙ statement-stated before s k low.entity_below v.0 in
      and_same (ap (is_fact ts) w) (scans-stated ts (before ++ (s ∷ [])) l (k + constants_in s.value) _ m (λ j d g. b (suc j) d (suc-le-suc g)) v.1)
