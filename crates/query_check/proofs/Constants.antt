-- There are no more constants than statements.
use Prim.Native.Nat.{◌≤◌}
use mathlib.Core.List.{List, [], ◌∷◌}
use native.Mathlib.Omega.{arith}
use lib.ListN.{length}
use Rattle.query.specs.declared.QueryValue.{QueryValue}
use Rattle.query.specs.declared.QueryValue.TheVariants.{Const, Var as Variable}
use Rattle.query.specs.declared.Statement.{Statement}
use Rattle.query_check.specs.Refusals.{constants_in, constants}

one_at_most : (v : QueryValue) → constants_in v ≤ 1
one_at_most (Const c) = omega arith
one_at_most (Variable x) = omega arith

pub constants-few : (ss : List Statement) → constants ss ≤ length ss
unfolding constants
constants-few [] = omega arith
constants-few (s ∷ ss) = omega (arith, one_at_most s.value, constants-few ss)
