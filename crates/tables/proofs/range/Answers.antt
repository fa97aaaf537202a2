-- The rows are those between the two bounds.
use Rattle.tables.proofs.Matching.{range-found}
use Rattle.tables.proofs.range.Goals as goal

pub returns : goal.returns
returns c = range-found _ _ _ _ c.first_row-from.ensures c.past_rows-to.ensures
