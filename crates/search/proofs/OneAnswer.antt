-- No second answer fits the promise of `search`.
use mathlib.Core.Path.{◌≡◌}
use Rattle.refusal.proofs.OneAnswer.{one_answer}
use Rattle.query.specs.declared.Query.{Query}
use Rattle.search.specs.Search.{search_of}
use Rattle.std.specs.Prelude.{Result}
use Rattle.refusal.specs.Verdict.{Refusal}
use Rattle.search.specs.declared.Cheapest.{Cheapest}
use Rattle.search.specs.Search.{said_found}

pub search-one : (q : Query) (r r' : Result Cheapest Refusal) → r ≡ said_found (search_of q) → r' ≡ said_found (search_of q) → r ≡ r'
search-one q r r' = one_answer
