-- No second answer fits the promises of this crate.
use mathlib.Core.Path.{◌≡◌}
use Prim.Native.Nat.{ℕ}
use mathlib.Core.List.{List}
use Rattle.refusal.proofs.OneAnswer.{one_answer}
use Rattle.query.specs.declared.Var.{Var}
use Rattle.query.specs.declared.Statement.{Statement}
use Rattle.query.specs.declared.Query.{Query}
use Rattle.search.specs.Search.{search_of}
use Rattle.search_lent.specs.Lent.{search_lent}
use Rattle.std.specs.Prelude.{Result}
use Rattle.refusal.specs.Verdict.{Refusal}
use Rattle.search.specs.declared.Cheapest.{Cheapest}
use Rattle.search.specs.Search.{said_found}

-- `search`
pub search-one : (n : ℕ) (ss : List Statement) (vs : List Var) (r r' : Result Cheapest Refusal) → r ≡ said_found (search_lent n ss vs) → r' ≡ said_found (search_lent n ss vs) → r ≡ r'
search-one n ss vs r r' = one_answer

pub search-query-one : (q : Query) (r r' : Result Cheapest Refusal) → r ≡ said_found (search_of q) → r' ≡ said_found (search_of q) → r ≡ r'
search-query-one q r r' = one_answer
