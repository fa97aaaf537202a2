-- After some statements the array is filled with as many.
use Rattle.std.proofs.Common.{◌≡◌}
use Rattle.search.proofs.Filled.{filled}
use Rattle.search.proofs.arrange.Given as goal

abbrev pub invariant-loop-i : goal.invariant-loop-i
invariant-loop-i l = l.items ≡ filled l.query.where_statements.count l.query.where_statements.items l.order l.i
