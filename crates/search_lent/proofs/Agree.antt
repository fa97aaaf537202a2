-- Searching a query that is lent and searching one by value agree: the search reads a query only through its statements, its selects and its
-- counts, and what is read of slices that fit has these.
use mathlib.Core.Path.{◌≡◌, refl, sym, ◌∙◌}
use Prim.Native.Nat.{ℕ, ◌≤◌}
use mathlib.Core.List.{List, [], ◌∷◌}
use lib.ListN.{length}
use lib.Dec.{ltb}
use Rattle.capacity.specs.Capacity.{max_statements, max_selects, max_searched}
use Rattle.std.specs.Prelude.{Ok}
use Rattle.refusal.specs.Verdict.{refused, refuse_if, or_else, unless}
use Rattle.lists.specs.Padded.{padded}
use Rattle.query.specs.declared.Var.{Var}
use Rattle.query.specs.declared.Statement.{Statement}
use Rattle.query.specs.declared.Query.{Query}
use Rattle.query.specs.Query.{statements_of, selects_of}
use Rattle.query_check.specs.Refusals.{capacity_fault, variables_fault, query_fault}
use Rattle.plan.specs.declared.Plan.{Plan}
use Rattle.planner.specs.Planning.{plan_for}
use Rattle.listing.specs.Next.{with_scans}
use Rattle.planner_lent.specs.Lent.{read_statements, read_selects, query_of}
use Rattle.planner_lent.proofs.Agree.{statements-read, selects-read, plan-alike}
use Rattle.search.specs.Answered.{Found}
use Rattle.search.specs.Search.{Candidate, orders, arranged, candidates, least_from, not_found, first_least, search_of}
use Rattle.search_lent.specs.Lent.{search_lent}

-- the first of least cost, of the plan of statements, and of the statements
abbrev found_parts : (List Statement → Plan) → List Statement → List Candidate → Found
found_parts planOn ss [] = not_found (refused 18 0)
found_parts planOn ss (c ∷ cs) =
    let d = least_from c cs in
    record { verdict = Ok tt; order = padded 0 max_searched d.order; plan = with_scans (planOn (arranged ss d.order)) d.scans; cost = d.cost }

found-parts : (q : Query) (cs : List Candidate) → first_least q cs ≡ found_parts (plan_for q) (statements_of q) cs
found-parts q [] = refl
found-parts q (c ∷ cs) = refl

-- the search, of the variable count, the count of statements, the statements, the count of selects, the selects and the plan of statements
abbrev search_parts : ℕ → ℕ → List Statement → ℕ → List Var → (List Statement → Plan) → Found
search_parts n statements ss selects vs planOn =
    unless (or_else (or_else (capacity_fault n statements ss selects) (variables_fault n statements ss vs)) (refuse_if (ltb max_searched statements) 17 0)) not_found
    (found_parts planOn ss (candidates n ss (orders statements)))

search-parts : (q : Query)
    → search_of q ≡ search_parts q.variable_count q.where_statements.count (statements_of q) q.select.count (selects_of q) (plan_for q)
unfolding search_of query_fault
search-parts q = rw (found-parts q (candidates q.variable_count (statements_of q) (orders q.where_statements.count)))

-- any query by value that has these statements and selects is searched as they are where they are lent
pub lent-agrees : (n : ℕ) (ss : List Statement) (vs : List Var) → length ss ≤ max_statements → length vs ≤ max_selects → (q : Query) → q.variable_count ≡ n
    → q.where_statements.count ≡ length ss → statements_of q ≡ ss → q.select.count ≡ length vs → selects_of q ≡ vs → search_of q ≡ search_lent n ss vs
lent-agrees n ss vs few few' q k c s d v =
    let r = query_of n (read_statements ss) (read_selects vs) in
    let p = plan-alike q r k c d (v ∙ sym (selects-read n ss vs few')) in
    (search-parts q ∙ (λ i. search_parts (k i) (c i) (s i) (d i) (v i) (p i))) ∙
    sym (search-parts r ∙ (λ i. search_parts n (length ss) (statements-read n ss vs few i) (length vs) (selects-read n ss vs few' i) (plan_for r)))
