-- A statement's scan fits after those of the statements before it: it reads what they name and constants, and writes what they do not name.
use mathlib.Core.Path.{◌≡◌, refl, sym, ◌∙◌}
use Prim.Native.Nat.{ℕ, ◌+◌, ◌≤◌, ◌<◌}
use mathlib.Core.List.{List, []}
use mathlib.Core.Bool.{Bool, true, false, not, ◌&&◌, and-true}
use native.Mathlib.Omega.{arith}
use borrow.Author.Tests.{eqb-false, ne_eqb}
use lib.ListN.{length}
use lib.Dec.{eqb}
use Rattle.datom.specs.declared.Aid.{Aid}
use Rattle.query.specs.declared.QueryValue.{QueryValue}
use Rattle.query.specs.declared.QueryValue.TheVariants.{Const, Var as Variable}
use Rattle.query.specs.declared.Statement.{Statement}
use Rattle.query.specs.Query.{is_variable, named}
use Rattle.query_check.specs.Refusals.{constants_in, constants}
use Rattle.query_check.specs.Below.{ValueBelow, Below}
use Rattle.plan.specs.declared.Slot.{Slot}
use Rattle.plan.specs.declared.Scan.{Scan}
use Rattle.plan.specs.declared.SlotRecord.{SlotRecord}
use Rattle.plan_check.specs.Check.{is_set}
use Rattle.plan_check.specs.Promised.{Fits}
use Rattle.planner.specs.Refusals.{binds_twice}
use Rattle.planner.specs.Planning.{slot_of, value_slot, is_value_set, scan_for, scan_of, scans_for, slots_for}
use Rattle.planned.proofs.Slots.{slots_length, variable-set, constant-set}

-- each of the four scans fits where its slots are as it is chosen for, and it does not write one slot twice
choice-fits : (slots : List SlotRecord) (before : List Scan) (x y : Bool) (e : Slot) (a : Aid) (v : Slot) → e.0 < length slots → v.0 < length slots
    → is_set slots before e.0 ≡ x → is_set slots before v.0 ≡ y → (x ≡ false → y ≡ false → eqb e.0 v.0 ≡ false)
    → Fits slots before (scan_for x y e a v)
choice-fits slots before true true e a v m n p q r = record { not_out_out_eavt = refl; first_named = m; first_right = p; second_named = n; second_right = simp q }
choice-fits slots before false true e a v m n p q r = record { not_out_out_eavt = refl; first_named = n; first_right = q; second_named = m; second_right = simp p }
choice-fits slots before true false e a v m n p q r = record { not_out_out_eavt = refl; first_named = m; first_right = p; second_named = n; second_right = simp q }
choice-fits slots before false false e a v m n p q r =
    record { not_out_out_eavt = refl; first_named = m; first_right = p; second_named = n; second_right = simp (q, r refl refl) }

module _ (n : ℕ) (ss before : List Statement) where
  -- the value's slot is one of the plan's
  value-slot : (v : QueryValue) → ValueBelow n v → (c : ℕ) → c + constants_in v ≤ n + constants ss → (value_slot v c).0 < n + constants ss
  value-slot (Const x) low c h = omega arith
  value-slot (Variable x) low c h = omega arith

  -- and is set as planning takes it to be
  value_set : (v : QueryValue) → ValueBelow n v → (c : ℕ) → n ≤ c → c + constants_in v ≤ n + constants ss
      → is_set (slots_for n ss) (scans_for [] before n) (value_slot v c).0 ≡ is_value_set before v
  value_set (Const x) low c l h = constant-set n ss (scans_for [] before n) c l (omega arith)
  value_set (Variable x) low c l h = variable-set n ss before n x.0 low

  -- where both are written they are two
  two-slots : (e : ℕ) (v : QueryValue) (c : ℕ) → (is_variable v e && not (named before e)) ≡ false → named before e ≡ false → is_value_set before v ≡ false
      → eqb e (value_slot v c).0 ≡ false
  two-slots e (Const x) c once i j = cc
  two-slots e (Variable x) c once i j =
      let d : eqb x.0 e ≡ false = sym (and-true _) ∙ simp i at once in
      ne_eqb e x.0 (λ q. eqb-false x.0 e d (sym q))

  -- so its scan fits
  pub scan-fits : (s : Statement) → Below n s → binds_twice before s ≡ false → (c : ℕ) → n ≤ c → c + constants_in s.value ≤ n + constants ss
      → Fits (slots_for n ss) (scans_for [] before n) (scan_of before s c)
  unfolding scan_of
  scan-fits s low once c l h =
      choice-fits (slots_for n ss) (scans_for [] before n) (named before s.entity.0) (is_value_set before s.value)
      (slot_of s.entity) s.attribute (value_slot s.value c)
      (rw slots_length (omega (arith, low.entity_below)))
      (rw slots_length (value-slot s.value low.value_below c h))
      (variable-set n ss before n s.entity.0 low.entity_below)
      (value_set s.value low.value_below c l h)
      (two-slots s.entity.0 s.value c once)
