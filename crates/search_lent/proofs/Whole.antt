-- A query by value that counts no more than its arrays hold is searched as its statements and selects are where they are lent.
use mathlib.Core.Path.{◌≡◌, refl, sym, subst}
use Prim.Native.Nat.{◌≤◌}
use lib.ListN.{length}
use Rattle.capacity.specs.Capacity.{max_statements, max_selects}
use Rattle.query.specs.declared.Query.{Query}
use Rattle.query.specs.Query.{statements_of, selects_of}
use Rattle.search.specs.Search.{search_of}
use Rattle.planner_lent.proofs.Whole.{statements-counted, selects-counted}
use Rattle.search_lent.specs.Lent.{search_lent}
use Rattle.search_lent.proofs.Agree.{lent-agrees}

pub searched-whole : (q : Query) → length q.where_statements.items ≡ max_statements → length q.select.items ≡ max_selects → q.where_statements.count ≤ max_statements → q.select.count ≤ max_selects → search_lent q.variable_count (statements_of q) (selects_of q) ≡ search_of q
searched-whole q room room' few few' =
    let n = statements-counted q room room' few in
    let m = selects-counted q room room' few' in
    sym (lent-agrees _ _ _ (subst (λ i. i ≤ max_statements) n few) (subst (λ i. i ≤ max_selects) m few') q refl n refl m refl)
