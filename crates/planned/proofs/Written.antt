-- The slots that scans write are the variables that statements name: a statement's scan writes those of its two that no statement before it
-- names, and it only reads a constant's slot.
use mathlib.Core.Path.{◌≡◌, refl, sym, ◌∙◌}
use Prim.Native.Nat.{ℕ, ◌+◌}
use mathlib.Core.List.{List, [], ◌∷◌, ◌++◌, append-nil}
use mathlib.Core.Bool.{Bool, true, false, not, ◌||◌, ◌&&◌, or-false, or_assoc, and-false}
use borrow.Author.Tests.{eqb-true}
use lib.Seq.{append_snoc}
use lib.Dec.{eqb}
use Rattle.datom.specs.declared.Aid.{Aid}
use Rattle.query.specs.declared.QueryValue.{QueryValue}
use Rattle.query.specs.declared.QueryValue.TheVariants.{Const, Var as Variable}
use Rattle.query.specs.declared.Statement.{Statement}
use Rattle.query.specs.Query.{is_variable, names, named}
use Rattle.query_check.specs.Refusals.{constants_in}
use Rattle.plan.specs.declared.Slot.{Slot}
use Rattle.plan_check.specs.Check.{first_writes, second_writes, is_written}
use Rattle.planner.specs.Planning.{slot_of, value_slot, is_value_set, scan_for, scan_of, scans_for}
use Rattle.planner.proofs.Statements.{named_more}

-- a scan writes what is not set
choice-writes : (x y : Bool) (e : Slot) (a : Aid) (v : Slot) (k : ℕ)
    → (first_writes (scan_for x y e a v) k || second_writes (scan_for x y e a v) k) ≡ (not x && eqb e.0 k || not y && eqb v.0 k)
choice-writes true true e a v k = refl
choice-writes false true e a v k = sym (or-false (eqb e.0 k))
choice-writes true false e a v k = refl
choice-writes false false e a v k = refl

module _ (before : List Statement) (k : ℕ) (new : named before k ≡ false) where
  -- of slots not yet named: a variable's
  variable-writes : (x : ℕ) → (not (named before x) && eqb x k) ≡ eqb x k
  variable-writes x = go (eqb x k) refl
    where
      go : (b : Bool) → eqb x k ≡ b → (not (named before x) && b) ≡ b
      go true e = let q : x ≡ k = eqb-true _ _ e in simp (q, new)
      go false e = and-false (not (named before x))

  -- and a value's
  value-writes : (v : QueryValue) (c : ℕ) → (not (is_value_set before v) && eqb (value_slot v c).0 k) ≡ is_variable v k
  value-writes (Const x) c = refl
  value-writes (Variable x) c = variable-writes x.0

  scan-names : (s : Statement) (c : ℕ) → (first_writes (scan_of before s c) k || second_writes (scan_of before s c) k) ≡ names s k
  unfolding scan_of
  scan-names s c =
      choice-writes (named before s.entity.0) (is_value_set before s.value) (slot_of s.entity) s.attribute (value_slot s.value c) k
      ∙ rw (variable-writes s.entity.0, value-writes s.value c)

-- one scan more
scan-writes : (before : List Statement) (s : Statement) (c k : ℕ)
    → (named before k || (first_writes (scan_of before s c) k || second_writes (scan_of before s c) k)) ≡ named (before ++ (s ∷ [])) k
scan-writes before s c k = go (named before k) refl ∙ sym (named_more before s k)
  where
    go : (b : Bool) → named before k ≡ b → (b || (first_writes (scan_of before s c) k || second_writes (scan_of before s c) k)) ≡ (b || names s k)
    go true e = refl
    go false e = scan-names before k e s c

-- the scans from one on
from-written : (before l : List Statement) (n k : ℕ) → (named before k || is_written (scans_for before l n) k) ≡ named (before ++ l) k
unfolding is_written scans_for
from-written before [] n k = rw append-nil (or-false (named before k))
from-written before (s ∷ l) n k =
    let w = is_written (scans_for (before ++ (s ∷ [])) l (n + constants_in s.value)) k in
    sym (or_assoc (named before k) (first_writes (scan_of before s n) k || second_writes (scan_of before s n) k) w)
    ∙ rw (scan-writes before s n k, from-written (before ++ (s ∷ [])) l (n + constants_in s.value) k, append_snoc)

-- all of them, from whatever slot on the constants stand
pub written-named : (l : List Statement) (n k : ℕ) → is_written (scans_for [] l n) k ≡ named l k
unfolding named
written-named l n k = from-written [] l n k
