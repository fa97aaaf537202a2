-- 01, "What crosses the counter": what is read of the statements and selects that are lent, and what planning answers of them.
use Rattle.std.specs.Prelude.{ℕ, List, length}
use Rattle.capacity.specs.Capacity.{max_statements, max_selects}
use Rattle.lists.specs.Padded.{padded}
use Rattle.query.specs.declared.Var.{Var}
use Rattle.query.specs.declared.Statement.{Statement}
use Rattle.query.specs.declared.Statements.{Statements}
use Rattle.query.specs.declared.Selects.{Selects}
use Rattle.query.specs.declared.Query.{Query}
use Rattle.query.specs.Query.{zero_var, zero_statement}
use Rattle.planner.specs.Answered.{Planned}
use Rattle.planner.specs.Planning.{plan_of}

-- as many as fit, and the count of all
abbrev pub read_statements : List Statement → Statements
read_statements ss = record { items = padded zero_statement max_statements ss; count = length ss }

abbrev pub read_selects : List Var → Selects
read_selects vs = record { items = padded zero_var max_selects vs; count = length vs }

abbrev pub query_of : ℕ → Statements → Selects → Query
query_of n st vs = record { variable_count = n; where_statements = st; select = vs }

-- what planning answers of a query that is lent
abbrev pub plan_lent : ℕ → List Statement → List Var → Planned
plan_lent n ss vs = plan_of (query_of n (read_statements ss) (read_selects vs))
