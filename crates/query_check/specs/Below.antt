-- What 14 leaves: a statement's variables are below a number.
use Rattle.std.specs.Prelude.{ℕ, ◌<◌}
use Rattle.query.specs.declared.QueryValue.{QueryValue}
use Rattle.query.specs.declared.QueryValue.TheVariants.{Const, Var as Variable}
use Rattle.query.specs.declared.Statement.{Statement}

abbrev pub ValueBelow : ℕ → QueryValue → Type 0
ValueBelow n (Const c) = Unit {0}
ValueBelow n (Variable x) = x.0 < n

pub record Below (n : ℕ) (s : Statement) : Type 0 where
  pub entity_below : s.entity.0 < n
  pub value_below : ValueBelow n s.value
