-- What the private functions of the search keep: the best of the candidates weighed so far.
use Rattle.std.specs.Prelude.{◌≡◌, ℕ, ◌≤◌, List, [], ◌∷◌, Option, Some, None, Bool, true, cond, take, ltb}
use Rattle.capacity.specs.Capacity.{max_scans, max_searched}
use Rattle.lists.specs.Padded.{padded}
use Rattle.std.specs.Prelude.{Ok}
use Rattle.query.specs.declared.Query.{Query}
use Rattle.query_check.specs.Clear.{Clear}
use Rattle.plan.specs.declared.Scan.{Scan}
use Rattle.plan.specs.declared.Plan.{Plan}
use Rattle.plan.specs.Plan.{zero_scan}
use Rattle.planner.specs.Planning.{plan_of}
use Rattle.orders.specs.Lists.{up_to, OrderOf}
use Rattle.listing.specs.Listing.{Initial}
use Rattle.search.specs.declared.Best.{Best}
use Rattle.search.specs.Answered.{Found}
use Rattle.search.specs.Search.{Candidate}
unfoldable pub use Rattle.search.specs.Search.{arranged_query}

-- a candidate
abbrev pub kept : Candidate → Best
kept c = record { order = padded 0 max_searched c.order; scans = padded zero_scan max_scans c.scans; cost = c.cost }

-- a cost takes the place of the least so far if there is none, or it is less
abbrev pub is_better : Option Best → ℕ → Bool
is_better None cost = true
is_better (Some b) cost = ltb cost b.cost

abbrev pub better : Option Best → Best → Option Best
better b c = cond (is_better b c.cost) (Some c) b

-- the best after some more
unfoldable pub best_from : Option Best → List Candidate → Option Best
best_from b [] = b
best_from b (c ∷ cs) = best_from (better b (kept c)) cs

-- a query that is searched: clear of 10 to 15, and of 17
pub record Searchable (q : Query) : Type 0 where
  pub clear : Clear q
  pub few : q.where_statements.count ≤ max_searched

-- the order of `count` statements that an array has in front, with zeros behind
pub record Orders (count : ℕ) (order : List ℕ) : Type 0 where
  pub few : count ≤ max_searched
  pub is_order : OrderOf (up_to count) (take count order)
  pub zeros : padded 0 max_searched (take count order) ≡ order

-- initial scans, as many, with zeros behind
pub record Plans (count : ℕ) (scans : List Scan) : Type 0 where
  pub initial : Initial (take count scans)
  pub zeros : padded zero_scan max_scans (take count scans) ≡ scans

-- the answer that the best makes: the plan of its order with its scans
abbrev pub plan_with : Plan → List Scan → Plan
plan_with p scans = record {
  scans = scans;
  scan_count = p.scan_count;
  slots = p.slots;
  slot_count = p.slot_count;
  select = p.select;
  select_count = p.select_count;
}

abbrev pub chosen : Query → Best → Found
chosen q b = record {
  verdict = Ok tt;
  order = b.order;
  plan = plan_with (plan_of (arranged_query q (take q.where_statements.count b.order))).plan b.scans;
  cost = b.cost;
}
