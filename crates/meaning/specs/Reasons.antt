-- 01, "Refusal numbers", 10 to 18: the sentence of each number, and its place; and that planning and the search refuse for the first of them.
use Rattle.std.specs.Prelude.{◌≡◌, ◌⊎◌, ℕ, ◌+◌, ◌≤◌, ◌<◌, List, true, false, length, get_or}
use Rattle.capacity.specs.Capacity.{max_statements, max_slots, max_selects, max_searched}
use Rattle.refusal.specs.Verdict.{Verdict}
use Rattle.std.specs.Prelude.{Ok}
use Rattle.refusal.specs.Verdict.{refused, number_of, Lowest}
use Rattle.query.specs.declared.Query.{Query}
use Rattle.query.specs.Query.{statements_of, selects_of, names, named, zero_var, zero_statement}
use Rattle.query_check.specs.Refusals.{constants}
use Rattle.plan.specs.Plan.{empty_plan}
use Rattle.planner.specs.Planning.{plan_for, plan_of}
use Rattle.search.specs.Search.{not_found, search_of}
use Rattle.meaning.specs.Demand.{NewTwice, SoundOrder, FirstOfLeast}

-- a variable number not below the variable count, in statement i or as select i
abbrev pub HighStatement : Query → ℕ → Type 0
HighStatement q i =
    (i < length (statements_of q)) × (v : ℕ) × (names (get_or (statements_of q) i zero_statement) v ≡ true) × (q.variable_count ≤ v)

abbrev pub HighSelect : Query → ℕ → Type 0
HighSelect q i = (i < length (selects_of q)) × (q.variable_count ≤ (get_or (selects_of q) i zero_var).0)

-- variable v in no statement
abbrev pub Unnamed : Query → ℕ → Type 0
Unnamed q v = (v < q.variable_count) × (named (statements_of q) v ≡ false)

-- why a query is refused by planning and by the search alike
pub data QueryReason (q : Query) : Type 0 where
  over_statements : max_statements < q.where_statements.count → QueryReason q
  over_slots : max_slots < q.variable_count + constants (statements_of q) → QueryReason q
  over_selects : max_selects < q.select.count → QueryReason q
  no_selects : q.select.count ≡ 0 → QueryReason q
  high_statement : (i : ℕ) → Lowest (HighStatement q) i → QueryReason q
  high_select : ((j : ℕ) → HighStatement q j → ⊥) → (i : ℕ) → Lowest (HighSelect q) i → QueryReason q
  unused : (v : ℕ) → Lowest (Unnamed q) v → QueryReason q

-- the number and the place that 01's table gives it
abbrev pub query_refusal : {q : Query} → QueryReason q → Verdict
query_refusal (over_statements h) = refused 10 0
query_refusal (over_slots h) = refused 11 0
query_refusal (over_selects h) = refused 12 0
query_refusal (no_selects h) = refused 13 0
query_refusal (high_statement i h) = refused 14 i
query_refusal {q} (high_select n i h) = refused 14 (q.where_statements.count + i)
query_refusal (unused v h) = refused 15 v

-- why planning refuses
pub data PlanReason (q : Query) : Type 0 where
  of_query : QueryReason q → PlanReason q
  new_twice : (i : ℕ) → Lowest (NewTwice (statements_of q)) i → PlanReason q

abbrev pub plan_refusal : {q : Query} → PlanReason q → Verdict
plan_refusal (of_query w) = query_refusal w
plan_refusal (new_twice i h) = refused 16 i

-- why the search refuses
pub data SearchReason (q : Query) : Type 0 where
  of_query : QueryReason q → SearchReason q
  over_searched : max_searched < q.where_statements.count → SearchReason q
  no_sound_order : ((o : List ℕ) → SoundOrder q o → ⊥) → SearchReason q

abbrev pub search_refusal : {q : Query} → SearchReason q → Verdict
search_refusal (of_query w) = query_refusal w
search_refusal (over_searched h) = refused 17 0
search_refusal (no_sound_order h) = refused 18 0

-- planning gives a plan, or it refuses for a reason and gives the empty plan; where there is a reason it refuses; and no reason that is true has a
-- lower number than the one given
pub record PlanningExplained (q : Query) : Type 0 where
  pub answer :
      (plan_of q ≡ record { verdict = Ok tt; plan = plan_for q (statements_of q) })
      ⊎ ((w : PlanReason q) × (plan_of q ≡ record { verdict = plan_refusal w; plan = empty_plan }))
  pub refuses : PlanReason q → (plan_of q).verdict ≡ Ok tt → ⊥
  pub first : (w : PlanReason q) → number_of (plan_of q).verdict ≤ number_of (plan_refusal w)

-- the search finds the first of least cost, or it refuses for a reason and everything it answers is zeros; and likewise
pub record SearchExplained (q : Query) : Type 0 where
  pub answer : FirstOfLeast q (search_of q) ⊎ ((w : SearchReason q) × (search_of q ≡ not_found (search_refusal w)))
  pub refuses : SearchReason q → (search_of q).verdict ≡ Ok tt → ⊥
  pub first : (w : SearchReason q) → number_of (search_of q).verdict ≤ number_of (search_refusal w)
