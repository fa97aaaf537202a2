-- 01, "What crosses the counter": what the search answers of statements and selects that are lent.
use Rattle.std.specs.Prelude.{ℕ, List}
use Rattle.query.specs.declared.Var.{Var}
use Rattle.query.specs.declared.Statement.{Statement}
use Rattle.planner_lent.specs.Lent.{read_statements, read_selects, query_of}
use Rattle.search.specs.Answered.{Found}
use Rattle.search.specs.Search.{search_of}

abbrev pub search_lent : ℕ → List Statement → List Var → Found
search_lent n ss vs = search_of (query_of n (read_statements ss) (read_selects vs))
