-- A query in another order of its statements: what 10 to 15 look at is the same, so it is planned, or an unsound order is passed over.
use mathlib.Core.Path.{◌≡◌, refl, sym, ap, ◌∙◌}
use Prim.Native.Nat.{ℕ, ◌≤◌}
use native.Mathlib.Omega.{arith}
use mathlib.Core.List.{List, [], map}
use lib.ListN.{length, take}
use lib.Seq.{length-take-le}
use Rattle.capacity.specs.Capacity.{max_statements, max_scans, max_selects}
use Rattle.std.specs.Prelude.{Ok, Err, Option}
use Rattle.refusal.proofs.Fine.{or-fine}
use Rattle.lists.specs.Padded.{padded}
use Rattle.lists.proofs.Padded.{padded-length, padded-take}
use Rattle.orders.specs.Lists.{up_to, OrderOf}
use Rattle.query.specs.declared.Query.{Query}
use Rattle.query.specs.declared.Statement.{Statement}
use Rattle.query.specs.Query.{statements_of, zero_statement}
use Rattle.query_check.specs.Refusals.{statements_fault, capacity_fault, variables_fault, query_fault}
use Rattle.plan.specs.declared.Scan.{Scan}
use Rattle.plan.specs.declared.Plan.{Plan}
use Rattle.plan.specs.Plan.{zero_scan}
use Rattle.planner.specs.Answered.{Planned}
use Rattle.planner.specs.Refusals.{bound_twice_fault, plan_fault}
use Rattle.planner.specs.Planning.{scans_for, plan_for, plan_of}
use Rattle.refusal.specs.Verdict.{Refusal, answer}
use Rattle.planner.proofs.Answered.{answer-refused, answer-fine}
use Rattle.planner.proofs.Accepted.{query-fits}
use Rattle.planner.proofs.Statements.{length-scans}
use Rattle.planned.proofs.Initial.{scans-initial}
use Rattle.planned.proofs.Passes.{plan-verdict, plan-there}
use Rattle.listing.specs.Listing.{combinations}
use Rattle.search.specs.declared.Best.{Best}
use Rattle.search.specs.Search.{Candidate, arranged, weighed, candidates_of}
use Rattle.search.specs.Best.{best_from, arranged_query, Searchable, Orders, Plans}
use Rattle.search.proofs.Arranged.{length-order, statements-order, constants-order, unused-order}

module _ (q : Query) (sized : length q.where_statements.items ≡ max_statements) (fine : query_fault q ≡ Ok tt) (o : List ℕ)
    (order : OrderOf (up_to q.where_statements.count) o) where
  abbrev count : ℕ
  count = q.where_statements.count

  abbrev ss : List Statement
  ss = statements_of q

  few : count ≤ max_statements
  few = (query-fits q fine).few_statements

  long : length ss ≡ count
  long = length-take-le count q.where_statements.items (omega (arith, few, sized))

  pub statements-ordered : OrderOf (up_to (length ss)) o
  statements-ordered = rw long order

  -- its statements
  pub arranged-statements : statements_of (arranged_query q o) ≡ arranged ss o
  arranged-statements = padded-take zero_statement max_statements count (arranged ss o) (length-order ss o statements-ordered ∙ long) few

  -- it is not refused either
  pub arranged-fine : query_fault (arranged_query q o) ≡ Ok tt
  unfolding query_fault capacity_fault variables_fault
  arranged-fine =
      let n = q.variable_count in
      let a = or-fine (capacity_fault n count ss q.select.count) _ fine in
      let b = or-fine (statements_fault n ss 0) _ a.1 in
      rw (arranged-statements, constants-order ss o statements-ordered, a.0, statements-order ss o statements-ordered n b.0, unused-order ss o statements-ordered n 0) b.1

  -- and planning refuses it exactly if the order is not sound
  pub arranged-fault : plan_fault (arranged_query q o) ≡ bound_twice_fault [] (arranged ss o) 0
  unfolding plan_fault
  arranged-fault = rw (arranged-fine, arranged-statements)

  -- what is weighed of an order
  abbrev n : ℕ
  n = q.variable_count

  abbrev initial : List Scan
  initial = scans_for [] (arranged ss o) n

  pub initial-long : length initial ≡ count
  initial-long = length-scans [] (arranged ss o) n ∙ length-order ss o statements-ordered ∙ long

  -- none where it is not sound
  pub unsound-none : (r : Refusal) → (plan_of (arranged_query q o)).verdict ≡ Err r → candidates_of n ss o ≡ []
  unfolding candidates_of
  unsound-none r e = let f = sym arranged-fault ∙ sym (plan-verdict (arranged_query q o)) ∙ e in rw f

  -- else its plans
  module _ (selects_sized : length q.select.items ≡ max_selects) (accepted : (plan_of (arranged_query q o)).verdict ≡ Ok tt) where
    pub sound-plans : candidates_of n ss o ≡ map (weighed o) (combinations initial)
    unfolding candidates_of
    sound-plans = let f = sym arranged-fault ∙ sym (plan-verdict (arranged_query q o)) ∙ accepted in rw f

    pub fresh-plan : (plan_of (arranged_query q o)).plan ≡ plan_for q (arranged ss o)
    unfolding plan_for
    fresh-plan = rw arranged-statements at (plan-there (arranged_query q o) (padded-length zero_statement max_statements _) selects_sized accepted)

    pub fresh-scans : (plan_of (arranged_query q o)).plan.scans ≡ padded zero_scan max_scans initial
    fresh-scans = ap (λ (p : Plan). p.scans) fresh-plan ∙ (unfold plan_for in refl)

    pub fresh-count : (plan_of (arranged_query q o)).plan.scan_count ≡ count
    fresh-count = ap (λ (p : Plan). p.scan_count) fresh-plan ∙ (unfold plan_for in refl)

    pub initial-front : take count (padded zero_scan max_scans initial) ≡ initial
    initial-front = padded-take zero_scan max_scans count initial initial-long few

    pub fresh-plans : Plans count (padded zero_scan max_scans initial)
    fresh-plans = record {
      initial = rw initial-front (scans-initial [] (arranged ss o) n);
      zeros = rw initial-front;
    }

-- the same of what planning answers
module _ (q : Query) (able : Searchable q) (order : List ℕ) (os : Orders q.where_statements.count order) where
  abbrev o : List ℕ
  o = take q.where_statements.count order

  abbrev candidates : List Candidate
  candidates = candidates_of q.variable_count (statements_of q) o

  abbrev said : Planned
  said = plan_of (arranged_query q o)

  pub order-passed : (r : Refusal) → answer said.verdict said.plan ≡ Err r → (b : Option Best) → b ≡ best_from b candidates
  unfolding best_from
  order-passed r e b = rw (unsound-none q able.clear.statements_sized able.clear.fine o os.is_order r (answer-refused _ _ r e))

  module _ (plan : Plan) (e : answer said.verdict said.plan ≡ Ok plan) where
    accepted : said.verdict ≡ Ok tt
    accepted = (answer-fine _ _ plan e).0

    counted : plan.scan_count ≡ q.where_statements.count
    counted = ap (λ (p : Plan). p.scan_count) (sym (answer-fine _ _ plan e).1) ∙ fresh-count q able.clear.statements_sized able.clear.fine o os.is_order able.clear.selects_sized accepted

    scanned : plan.scans ≡ padded zero_scan max_scans (scans_for [] (arranged (statements_of q) o) q.variable_count)
    scanned = ap (λ (p : Plan). p.scans) (sym (answer-fine _ _ plan e).1) ∙ fresh-scans q able.clear.statements_sized able.clear.fine o os.is_order able.clear.selects_sized accepted

    pub order-asks : Orders plan.scan_count order × Plans plan.scan_count plan.scans
    order-asks = rw (counted, scanned) (os, fresh-plans q able.clear.statements_sized able.clear.fine o os.is_order able.clear.selects_sized accepted)

    pub order-weighs : (b r : Option Best)
        → r ≡ best_from b (map (weighed (take plan.scan_count order)) (combinations (take plan.scan_count plan.scans)))
        → r ≡ best_from b candidates
    order-weighs b r h =
        let front = initial-front q able.clear.statements_sized able.clear.fine o os.is_order able.clear.selects_sized accepted in
        rw (sound-plans q able.clear.statements_sized able.clear.fine o os.is_order able.clear.selects_sized accepted) (rw (counted, scanned, front) at h)
