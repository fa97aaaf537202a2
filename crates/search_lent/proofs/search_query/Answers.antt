-- What is lent is searched as the query is.
use mathlib.Core.Path.{ap, ◌∙◌}
use native.Mathlib.Omega.{arith}
use borrow.Author.Rules.{rules}
use Rattle.search.specs.Answered.{Found}
use Rattle.search.specs.Search.{said_found}
use Rattle.search_lent.proofs.Whole.{searched-whole}
use Rattle.search_lent.proofs.search_query.Goals as goal

pub returns : goal.returns
returns c =
    c.search-2.ensures ∙
    ap (λ (f : Found). said_found f) (searched-whole c.args.query (search rules) (search rules) (omega arith) (omega arith))
