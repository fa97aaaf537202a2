-- What is lent, over an array of zeros, is what is read.
use mathlib.Core.Path.{ap, ◌∙◌}
use lib.ListN.{length}
use mathlib.Core.List.{List}
use Rattle.capacity.specs.Capacity.{max_statements}
use Rattle.query.specs.declared.Statement.{Statement}
use Rattle.query.specs.Query.{zero_statement}
use Rattle.planner_lent.proofs.Read.{front_padded}
use Rattle.planner_lent.proofs.read_statements.Goals as goal

pub returns : goal.returns
returns c =
    let lent = c.args.lent.now in
    ap (λ (l : List Statement). record { items = l; count = length lent }) (c.put_front.ensures ∙ front_padded zero_statement max_statements lent)
