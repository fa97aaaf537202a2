-- Which slots are set after the scans of statements: a variable's where one of them names it, and every constant's.
use mathlib.Core.Path.{◌≡◌, refl}
use Prim.Native.Nat.{ℕ, zero, suc, ◌+◌, ◌-◌, ◌≤◌, ◌<◌}
use mathlib.Core.List.{List, [], ◌∷◌, ◌++◌}
use mathlib.Core.Bool.{true, false}
use native.Mathlib.Nat.{not-suc-le-zero, le_of_suc-le-suc}
use native.Mathlib.Omega.{arith}
use lib.ListN.{length, get_or, replicate, length-append, length-replicate, get_or-replicate, get_or-append}
use lib.Seq.{get_or-append-add}
use Rattle.query.specs.declared.QueryValue.{QueryValue}
use Rattle.query.specs.declared.QueryValue.TheVariants.{Const, Var as Variable}
use Rattle.query.specs.declared.Statement.{Statement}
use Rattle.query.specs.Query.{named}
use Rattle.query_check.specs.Refusals.{constants}
use Rattle.plan.specs.declared.Scan.{Scan}
use Rattle.plan.specs.declared.SlotRecord.{SlotRecord}
use Rattle.plan.specs.Plan.{constant_at, variable_slot}
use Rattle.plan_check.specs.Check.{is_set}
use Rattle.planner.specs.Planning.{constant_slots, slots_of_constants, scans_for, slots_for}
use Rattle.planner.proofs.Statements.{length-slots}
use Rattle.planned.proofs.Written.{written-named}

-- the slots past the variables are constants
abbrev Constants : List SlotRecord → Type 0
Constants l = (k : ℕ) → k < length l → constant_at l k ≡ true

one-constant : (v : QueryValue) (l : List SlotRecord) → Constants l → Constants (constant_slots v ++ l)
one-constant (Const c) l r zero h = refl
one-constant (Const c) l r (suc k) h = r k (le_of_suc-le-suc h)
one-constant (Variable x) l r k h = r k h

all-constants : (ss : List Statement) → Constants (slots_of_constants ss)
unfolding slots_of_constants
all-constants [] = λ k h. absurd (not-suc-le-zero h)
all-constants (s ∷ ss) = one-constant s.value (slots_of_constants ss) (all-constants ss)

module _ (n : ℕ) (ss : List Statement) where
  -- the slots are the variables and the constants
  pub slots_length : length (slots_for n ss) ≡ n + constants ss
  slots_length = simp (length-append, length-replicate, length-slots)

  -- a variable's slot is no constant
  pub variable-slot : (k : ℕ) → k < n → constant_at (slots_for n ss) k ≡ false
  variable-slot k h =
      let here : k < length (replicate n variable_slot) = simp length-replicate h in
      rw (get_or-append (replicate n variable_slot) (slots_of_constants ss) variable_slot k here, get_or-replicate n k variable_slot variable_slot h) refl

  -- and is set where one of the statements names it
  pub variable-set : (l : List Statement) (m k : ℕ) → k < n → is_set (slots_for n ss) (scans_for [] l m) k ≡ named l k
  unfolding is_set
  variable-set l m k h = rw (variable-slot k h) (written-named l m k)

  -- a constant's slot
  pub constant-set : (scans : List Scan) (k : ℕ) → n ≤ k → k < n + constants ss → is_set (slots_for n ss) scans k ≡ true
  unfolding is_set
  constant-set scans k h r =
      let past : get_or (slots_for n ss) (n + (k - n)) variable_slot ≡ get_or (slots_of_constants ss) (k - n) variable_slot =
      rw length-replicate at (get_or-append-add (replicate n variable_slot) (slots_of_constants ss) (k - n) variable_slot) in
      let e : n + (k - n) ≡ k = omega arith in
      let j : k - n < length (slots_of_constants ss) = simp length-slots (omega arith) in
      simp (rw e at past, all-constants ss (k - n) j)
