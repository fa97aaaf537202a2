-- 01, "Swaps and the search": the plans that are weighed, and the first of least cost.
use Rattle.std.specs.Prelude.{Result}
use Rattle.refusal.specs.Verdict.{Refusal, answer}
use Rattle.search.specs.declared.Cheapest.{Cheapest}
use Rattle.std.specs.Prelude.{ℕ, List, [], ◌∷◌, ◌++◌, map, Bool, true, false, cond, get_or, replicate, ltb}
use Rattle.capacity.specs.Capacity.{max_statements, max_searched}
use Rattle.refusal.specs.Verdict.{Verdict}
use Rattle.std.specs.Prelude.{Ok, Err}
use Rattle.refusal.specs.Verdict.{refuse_if, or_else, unless}
use Rattle.lists.specs.Padded.{padded}
use Rattle.permutation.specs.Swaps.{start}
use Rattle.orders.specs.Lists.{up_to, factorial}
use Rattle.orders.specs.Listing.{listed}
use Rattle.query.specs.declared.Statement.{Statement}
use Rattle.query.specs.declared.Query.{Query}
use Rattle.query.specs.Query.{statements_of, zero_statement}
use Rattle.query_check.specs.Refusals.{query_fault}
use Rattle.plan.specs.declared.Scan.{Scan}
use Rattle.plan.specs.Plan.{empty_plan}
use Rattle.cost.specs.Cost.{weight}
use Rattle.planner.specs.Refusals.{bound_twice_fault}
use Rattle.planner.specs.Planning.{scans_for, plan_for}
use Rattle.listing.specs.Next.{with_scans}
use Rattle.listing.specs.Listing.{combinations}
use Rattle.search.specs.Answered.{Found}

-- a plan that is weighed: the order of the statements, its scans, and its cost
pub record Candidate : Type 0 where
  pub order : List ℕ
  pub scans : List Scan
  pub cost : ℕ

-- orders as the swaps give them
abbrev pub orders : ℕ → List (List ℕ)
orders n = listed (factorial n) (start n) (up_to n)

-- the statements in an order
abbrev pub arranged : List Statement → List ℕ → List Statement
arranged ss o = map (λ i. get_or ss i zero_statement) o

-- the query with its statements in an order, which is planned afresh: the same variables and selects, and zeros past the last statement
abbrev pub arranged_query : Query → List ℕ → Query
arranged_query q o = record {
  variable_count = q.variable_count;
  where_statements = record { items = padded zero_statement max_statements (arranged (statements_of q) o); count = q.where_statements.count };
  select = q.select;
}

-- an order is sound if no statement has one variable as both entity and value that no earlier statement names
abbrev pub is_fine : Verdict → Bool
is_fine (Ok tt) = true
is_fine (Err r) = false

abbrev pub is_sound : List Statement → Bool
is_sound ss = is_fine (bound_twice_fault [] ss 0)

-- each order planned afresh, unsound orders passed over, each order's plans as listed
abbrev pub weighed : List ℕ → List Scan → Candidate
weighed o l = record { order = o; scans = l; cost = weight [] l }

unfoldable pub candidates_of : ℕ → List Statement → List ℕ → List Candidate
candidates_of n ss o = cond (is_sound (arranged ss o)) (map (weighed o) (combinations (scans_for [] (arranged ss o) n))) []

unfoldable pub candidates : ℕ → List Statement → List (List ℕ) → List Candidate
candidates n ss [] = []
candidates n ss (o ∷ os) = candidates_of n ss o ++ candidates n ss os

-- the first of least cost: a later one takes the place only if it costs less
unfoldable pub least_from : Candidate → List Candidate → Candidate
least_from c [] = c
least_from c (d ∷ ds) = least_from (cond (ltb d.cost c.cost) d c) ds

-- what is found: the order with zeros past the last, the plan, its cost
abbrev pub found_as : Query → Candidate → Found
found_as q c = record {
  verdict = Ok tt;
  order = padded 0 max_searched c.order;
  plan = with_scans (plan_for q (arranged (statements_of q) c.order)) c.scans;
  cost = c.cost;
}

abbrev pub not_found : Verdict → Found
not_found v = record { verdict = v; order = replicate max_searched 0; plan = empty_plan; cost = 0 }

-- 18: no sound order
abbrev pub first_least : Query → List Candidate → Found
first_least q [] = not_found (refuse_if true 18 0)
first_least q (c ∷ cs) = found_as q (least_from c cs)

-- 10 to 15, 17: search over 6 statements, 18; else the first plan of least cost
unfoldable pub search_of : Query → Found
search_of q =
    unless (or_else (query_fault q) (refuse_if (ltb max_searched q.where_statements.count) 17 0)) not_found
    (first_least q (candidates q.variable_count (statements_of q) (orders q.where_statements.count)))

-- what the search answers
abbrev pub said_found : Found → Result Cheapest Refusal
said_found f = answer f.verdict (record { order = f.order; plan = f.plan; cost = f.cost })
