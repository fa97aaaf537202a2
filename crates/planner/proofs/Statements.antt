-- One statement more: what it adds to the names, the constants, the slots and the scans of those before it.
use mathlib.Core.Path.{◌≡◌, refl, sym, ap, ◌∙◌}
use Prim.Native.Nat.{ℕ, suc, ◌+◌, ◌-◌, ◌≤◌}
use mathlib.Core.List.{List, [], ◌∷◌, ◌++◌, append_assoc, append-nil}
use mathlib.Core.Bool.{◌||◌, or-false, or_assoc}
use native.Mathlib.Nat.{add_assoc, add-zero}
use native.Mathlib.Omega.{arith}
use lib.ListN.{length, take, drop, length-append}
use lib.Seq.{take-add}
use Rattle.query.specs.declared.QueryValue.{QueryValue}
use Rattle.query.specs.declared.QueryValue.TheVariants.{Const, Var as Variable}
use Rattle.query.specs.declared.Statement.{Statement}
use Rattle.query.specs.Query.{names, named}
use Rattle.query_check.specs.Refusals.{constants_in, constants}
use Rattle.plan.specs.declared.Scan.{Scan}
use Rattle.planner.specs.Planning.{constant_slots, slots_of_constants, scan_of, scans_for}

pub named_more : (l : List Statement) (s : Statement) (v : ℕ) → named (l ++ (s ∷ [])) v ≡ (named l v || names s v)
unfolding named
named_more [] s v = or-false (names s v)
named_more (b ∷ l) s v = rw (named_more l s v) (sym (or_assoc (names b v) (named l v) (names s v)))

pub constants-append : (l m : List Statement) → constants (l ++ m) ≡ constants l + constants m
unfolding constants
constants-append [] m = omega arith
constants-append (b ∷ l) m = omega (arith, constants-append l m)

pub constants-more : (l : List Statement) (s : Statement) → constants (l ++ (s ∷ [])) ≡ constants l + constants_in s.value
unfolding constants
constants-more l s = constants-append l (s ∷ []) ∙ omega arith

-- fewer statements have no more constants
pub constants-within : (l : List Statement) (i n : ℕ) → i ≤ n → constants (take i l) ≤ constants (take n l)
constants-within l i n h =
    let e : i + (n - i) ≡ n = omega arith in
    let t : take n l ≡ take i l ++ take (n - i) (drop i l) = rw e at (take-add i (n - i) l) in
    omega (arith, ap constants t, constants-append (take i l) (take (n - i) (drop i l)))

pub scans-more : (before l : List Statement) (s : Statement) (k : ℕ)
    → scans_for before (l ++ (s ∷ [])) k ≡ scans_for before l k ++ (scan_of (before ++ l) s (k + constants l) ∷ [])
unfolding scans_for constants
scans-more before [] s k = rw (append-nil, add-zero)
scans-more before (b ∷ l) s k =
    ap (λ (t : List Scan). scan_of before b k ∷ t) (scans-more (before ++ (b ∷ [])) l s (k + constants_in b.value) ∙ rw (append_assoc, add_assoc))

pub length-scans : (before l : List Statement) (k : ℕ) → length (scans_for before l k) ≡ length l
unfolding scans_for
length-scans before [] k = refl
length-scans before (b ∷ l) k = ap suc (length-scans (before ++ (b ∷ [])) l (k + constants_in b.value))

pub slots-more : (l : List Statement) (s : Statement) → slots_of_constants (l ++ (s ∷ [])) ≡ slots_of_constants l ++ constant_slots s.value
unfolding slots_of_constants
slots-more [] s = append-nil (constant_slots s.value)
slots-more (b ∷ l) s = rw (slots-more l s) (sym (append_assoc (constant_slots b.value) (slots_of_constants l) (constant_slots s.value)))

length-constant : (v : QueryValue) → length (constant_slots v) ≡ constants_in v
length-constant (Const c) = refl
length-constant (Variable x) = refl

pub length-slots : (l : List Statement) → length (slots_of_constants l) ≡ constants l
unfolding slots_of_constants constants
length-slots [] = refl
length-slots (b ∷ l) = length-append (constant_slots b.value) (slots_of_constants l) ∙ omega (arith, length-constant b.value, length-slots l)
