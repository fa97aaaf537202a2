-- What it says that the variables of statements and selects are fine.
use mathlib.Core.Path.{◌≡◌}
use Prim.Native.Nat.{ℕ, ◌≤◌, ◌<◌}
use native.Mathlib.Omega.{arith}
use mathlib.Core.List.{List}
use mathlib.Core.Bool.{false}
use borrow.Author.Tests.{leb-false}
use lib.ListN.{length, get_or}
use lib.Dec.{leb}
use Rattle.lists.proofs.Tests.{neither}
use Rattle.std.specs.Prelude.{Ok}
use Rattle.refusal.proofs.First.{each-passes}
use Rattle.query.specs.declared.QueryValue.{QueryValue}
use Rattle.query.specs.declared.QueryValue.TheVariants.{Const, Var as Variable}
use Rattle.query.specs.declared.Statement.{Statement}
use Rattle.query_check.specs.Refusals.{high_value, high, statements_fault}
use Rattle.query_check.specs.Below.{ValueBelow, Below}

value_low : (n : ℕ) (v : QueryValue) → high_value n v ≡ false → ValueBelow n v
value_low n (Const c) e = tt
value_low n (Variable x) e = leb-false _ _ e

-- each statement names variables below the count
pub statements-below : (n : ℕ) (ss : List Statement) (i : ℕ) → statements_fault n ss i ≡ Ok tt → (j : ℕ) (d : Statement) → j < length ss → Below n (get_or ss j d)
unfolding statements_fault
statements-below n ss i e j d h =
    let s = get_or ss j d in
    let o = neither (leb n s.entity.0) (high_value n s.value) ((each-passes (high n) 14 d i ss).0 e j h) in
    record { entity_below = leb-false _ _ o.0; value_below = value_low n s.value o.1 }

-- and below what is no less
value-more : (n m : ℕ) → n ≤ m → (v : QueryValue) → ValueBelow n v → ValueBelow m v
value-more n m h (Const c) b = tt
value-more n m h (Variable x) b = omega arith

pub below_more : (n m : ℕ) → n ≤ m → (s : Statement) → Below n s → Below m s
below_more n m h s b = record { entity_below = omega arith; value_below = value-more n m h s.value b.value_below }
