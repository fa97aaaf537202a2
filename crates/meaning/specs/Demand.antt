-- Demand 3: the row list is exactly the assignments that make every statement a fact, each once, seen through the select list (`RowsDemanded`);
-- the search weighs every plan of every sound order and picks the first of least cost (`SearchDemanded`). Plans, rows and costs are those
-- of demand 2: `plan_of`, `next_plan_of`, `evaluate_of`, `buffer_after`, `cost_of` and `search_of` are what the contracts say that the functions answer.
use Rattle.std.specs.Prelude.{◌≡◌, ◌⊎◌, ◌↔◌, Bool, true, false, ◌&&◌, ℕ, suc, ◌≤◌, ◌<◌, length, get_or, take}
use mathlib.Core.List.{List, [], ◌∷◌, map, Memᴰ}
use Rattle.capacity.specs.Capacity.{max_searched}
use Rattle.std.specs.Prelude.{Ok}
use Rattle.refusal.specs.Verdict.{refused}
use Rattle.datom.specs.Fact.{Fact, aevt_row, avet_row, eavt_row}
use Rattle.lists.specs.Padded.{padded}
use Rattle.orders.specs.Lists.{up_to, OrderOf}
use Rattle.orders.specs.Times.{times_in}
use Rattle.query.specs.declared.Var.{Var}
use Rattle.query.specs.declared.QueryValue.{QueryValue}
use Rattle.query.specs.declared.QueryValue.TheVariants.{Const, Var as Variable}
use Rattle.query.specs.declared.Statement.{Statement}
use Rattle.query.specs.declared.Query.{Query}
use Rattle.query.specs.Query.{statements_of, selects_of, is_variable, named, zero_statement}
use Rattle.query_check.specs.Clear.{Clear}
use Rattle.plan.specs.declared.Plan.{Plan}
use Rattle.cost.specs.Cost.{cost_of}
use Rattle.planner.specs.Planning.{plan_of}
use Rattle.listing.specs.Next.{next_plan_of}
use Rattle.search.specs.Answered.{Found}
use Rattle.search.specs.Search.{Candidate, orders, arranged, arranged_query, candidates, found_as, not_found, search_of}
use Rattle.tables.specs.Rows.{rows_of}
use Rattle.tables.specs.Check.{is_among}
use Rattle.tables.specs.Passed.{Sorted}
use Rattle.visits.specs.Visits.{Tables, row_list}
use Rattle.eval.specs.Evaluation.{shows, shown_in, evaluate_of, buffer_after}

-- the facts are the triples that stand in aevt
abbrev pub is_fact : Tables → Fact → Bool
is_fact ts f = is_among (aevt_row f) (rows_of ts.aevt)

-- three tables of whole rows, each strictly ascending, that hold the same triples
pub record SameTriples (ts : Tables) : Type 0 where
  pub aevt_sorted : Sorted ts.aevt
  pub avet_sorted : Sorted ts.avet
  pub eavt_sorted : Sorted ts.eavt
  pub in_avet : (f : Fact) → is_fact ts f ≡ is_among (avet_row f) (rows_of ts.avet)
  pub in_eavt : (f : Fact) → is_fact ts f ≡ is_among (eavt_row f) (rows_of ts.eavt)

-- an assignment is a list of numbers, one per variable. Under it a value is the number of its variable, or the constant
abbrev pub value_under : List ℕ → QueryValue → ℕ
value_under a (Const c) = c
value_under a (Variable x) = get_or a x.0 0

-- the triple that a statement is under an assignment
abbrev pub stated : List ℕ → Statement → Fact
stated a s = record { entity = get_or a s.entity.0 0; attribute = s.attribute.0; value = value_under a s.value }

-- every statement is a fact
unfoldable pub are_facts : Tables → List Statement → List ℕ → Bool
are_facts ts [] a = true
are_facts ts (s ∷ ss) a = is_fact ts (stated a s) && are_facts ts ss a

-- an assignment for a query that makes every statement a fact
pub record Makes (ts : Tables) (q : Query) (a : List ℕ) : Type 0 where
  pub one_per_variable : length a ≡ q.variable_count
  pub all_facts : are_facts ts (statements_of q) a ≡ true

-- a list of assignments, none twice, that holds every one that makes all statements facts, and no other
pub record Answers (ts : Tables) (q : Query) (l : List (List ℕ)) : Type 0 where
  pub none_twice : (a : List ℕ) → times_in a l ≤ 1
  pub every : (a : List ℕ) → Makes ts q a → 1 ≤ times_in a l
  pub only : (a : List ℕ) → 1 ≤ times_in a l → Makes ts q a

-- an assignment seen through the select list
abbrev pub through : List Var → List ℕ → List ℕ
through vs a = map (λ (v : Var). get_or a v.0 0) vs

-- rows mean a query: they are such a list seen through the select list, in its order
pub record Meaning (ts : Tables) (q : Query) (rows : List (List ℕ)) : Type 0 where
  pub assignments : List (List ℕ)
  pub answers : Answers ts q assignments
  pub rows_are : rows ≡ map (through (selects_of q)) assignments

-- a plan's row list means a query; and every call of `evaluate`, from any row k on and into any buffer, answers with its window of those
-- assignments, seen through the select list, and leaves that window in the buffer
pub record Shown (ts : Tables) (q : Query) (p : Plan) : Type 0 where
  pub meaning : Meaning ts q (row_list p ts)
  pub answer : (k : ℕ) (buffer : List ℕ)
      → evaluate_of p ts k (length buffer) ≡ shows (map (through (selects_of q)) meaning.assignments) (length (selects_of q)) k (length buffer)
  pub buffer_then : (k : ℕ) (buffer : List ℕ)
      → buffer_after p ts k buffer ≡ shown_in (map (through (selects_of q)) meaning.assignments) (length (selects_of q)) k buffer

-- entity and value of statement i are one variable, new there: no statement before it names it
abbrev pub NewTwice : List Statement → ℕ → Type 0
NewTwice ss i =
    (i < length ss) × (is_variable (get_or ss i zero_statement).value (get_or ss i zero_statement).entity.0 ≡ true)
    × (named (take i ss) (get_or ss i zero_statement).entity.0 ≡ false)

-- an order of a query's statements, as statement numbers, is sound if no statement has one variable as both entity and value that no earlier
-- statement names
pub record SoundOrder (q : Query) (o : List ℕ) : Type 0 where
  pub order : OrderOf (up_to q.where_statements.count) o
  pub none_twice : (i : ℕ) → NewTwice (arranged (statements_of q) o) i → ⊥

-- the plans listed are the initial one and each reached by a yes of `next`; number t by t of them
pub data Reached (p : Plan) : ℕ → Plan → Type 0 where
  initial_plan : Reached p 0 p
  by_yes : {t : ℕ} {r : Plan} → Reached p t r → (next_plan_of r).is_new ≡ true → Reached p (suc t) (next_plan_of r).plan

-- plan number t of a sound order. The initial one is what `plan` answers for the query with its statements in that order
pub record PlanIn (q : Query) (o : List ℕ) (t : ℕ) (p : Plan) : Type 0 where
  pub sound : SoundOrder q o
  pub reached : Reached (plan_of (arranged_query q o)).plan t p

-- The rows: for a query clear of 10 to 15, every plan of every sound order shows, over any three ascending tables of the same triples, the
-- assignments that make every statement a fact, each once, seen through the select list
abbrev pub RowsDemanded : Query → Type 0
RowsDemanded q = Clear q → (o : List ℕ) (t : ℕ) (p : Plan) → PlanIn q o t p → (ts : Tables) → SameTriples ts → Shown ts q p

-- what the search weighs: orders as the swaps give them, each order's plans as listed
abbrev pub weighed_in : Query → List Candidate
weighed_in q = candidates q.variable_count (statements_of q) (orders q.where_statements.count)

-- it weighs a plan of an order, by the cost that `cost` answers
pub record Weighs (q : Query) (o : List ℕ) (p : Plan) (c : Candidate) : Type 0 where
  pub weighed : Memᴰ c (weighed_in q)
  pub order_is : c.order ≡ o
  pub plan_is : (found_as q c).plan ≡ p
  pub cost_is : cost_of p ≡ record { verdict = Ok tt; cost = c.cost }

-- order number r of those that the swaps give
abbrev pub order_at : Query → ℕ → List ℕ
order_at q r = get_or (orders q.where_statements.count) r []

-- the first of least cost: plan number `steps` of order number `number`. It costs no more than any plan of any sound order, and less than each
-- plan of an earlier order and each earlier plan of its own. With it go its order, zeros past the last, and its cost
pub record FirstOfLeast (q : Query) (f : Found) : Type 0 where
  pub number : ℕ
  pub steps : ℕ
  pub within : number < length (orders q.where_statements.count)
  pub fine : f.verdict ≡ Ok tt
  pub order_is : f.order ≡ padded 0 max_searched (order_at q number)
  pub plan_is : PlanIn q (order_at q number) steps f.plan
  pub cost_is : cost_of f.plan ≡ record { verdict = Ok tt; cost = f.cost }
  pub least : (o : List ℕ) (t : ℕ) (p : Plan) → PlanIn q o t p → f.cost ≤ (cost_of p).cost
  pub first : (r t : ℕ) (p : Plan) → (r < number) ⊎ ((r ≡ number) × (t < steps)) → PlanIn q (order_at q r) t p → f.cost < (cost_of p).cost

-- the swaps give every order once; every plan of every sound order is weighed, and nothing else; the answer is the first of least cost, or 18
-- with zeros, and that exactly if no order is sound
pub record Searches (q : Query) : Type 0 where
  pub orders_once : (o : List ℕ) → OrderOf (up_to q.where_statements.count) o → times_in o (orders q.where_statements.count) ≡ 1
  pub every : (o : List ℕ) (t : ℕ) (p : Plan) → PlanIn q o t p → (c : Candidate) × Weighs q o p c
  pub only : (c : Candidate) → Memᴰ c (weighed_in q) → (o : List ℕ) × (t : ℕ) × (p : Plan) × PlanIn q o t p × Weighs q o p c
  pub answer : FirstOfLeast q (search_of q) ⊎ (search_of q ≡ not_found (refused 18 0))
  pub no_order : (search_of q ≡ not_found (refused 18 0)) ↔ ((o : List ℕ) → SoundOrder q o → ⊥)

-- The search: for a query clear of 10 to 15, and of 17
abbrev pub SearchDemanded : Query → Type 0
SearchDemanded q = Clear q → q.where_statements.count ≤ max_searched → Searches q
