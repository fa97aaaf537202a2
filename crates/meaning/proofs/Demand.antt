-- Demand 3, both halves: the plans of an order are those of the query in that order, and the search goes through them.
use Rattle.query.specs.declared.Query.{Query}
use Rattle.search.specs.Search.{arranged_query}
use Rattle.meaning.specs.Demand.{RowsDemanded, SearchDemanded}
use Rattle.meaning.proofs.Shown.{reached-shown}
use Rattle.meaning.proofs.Ordered.{ordered-clear, ordered-accepted, ordered-shown}
use Rattle.meaning.proofs.Cheapest.{searches}

pub rows-demanded : (q : Query) → RowsDemanded q
rows-demanded q clear o t p plan ts tables =
    let s = plan.sound in
    ordered-shown q clear o s ts p (reached-shown (arranged_query q o) (ordered-clear q clear o s) (ordered-accepted q clear o s) plan.reached ts tables)

pub search-demanded : (q : Query) → SearchDemanded q
search-demanded = searches
