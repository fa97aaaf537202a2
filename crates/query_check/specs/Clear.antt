-- A query as the code holds it, clear of 10 to 15.
use Rattle.std.specs.Prelude.{◌≡◌, length}
use Rattle.capacity.specs.Capacity.{max_statements, max_selects}
use Rattle.std.specs.Prelude.{Ok}
use Rattle.query.specs.declared.Query.{Query}
use Rattle.query_check.specs.Refusals.{query_fault}

-- its arrays are as long as they are declared, and none of 10 to 15 is given
pub record Clear (q : Query) : Type 0 where
  pub statements_sized : length q.where_statements.items ≡ max_statements
  pub selects_sized : length q.select.items ≡ max_selects
  pub fine : query_fault q ≡ Ok tt
