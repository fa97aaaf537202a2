-- 01, "Bench examples": the lines marked P in one table: a question that the definitions answer, and what 01 says.
use Rattle.refusal.specs.Verdict.{number_in}
use Rattle.std.specs.Prelude.{ℕ, List, [], ◌∷◌, map, Bool, true, false, cond, ◌&&◌, length}
use Rattle.refusal.specs.Verdict.{Verdict}
use Rattle.std.specs.Prelude.{Ok, Err}
use Rattle.permutation.specs.Answered.{NextSwap}
use Rattle.permutation.specs.Swaps.{start}
use Rattle.orders.specs.Lists.{up_to, factorial}
use Rattle.orders.specs.Listing.{answer_at}
use Rattle.query.specs.declared.Query.{Query}
use Rattle.plan.specs.declared.Scan.{Scan}
use Rattle.plan.specs.declared.Plan.{Plan}
use Rattle.plan.specs.Codes.{index_code}
use Rattle.plan.specs.Plan.{scans_of}
use Rattle.cost.specs.Cost.{cost_of}
use Rattle.planner.specs.Planning.{plan_of}
use Rattle.listing.specs.Next.{with_scans}
use Rattle.listing.specs.Listing.{combinations}
use Rattle.search.specs.Search.{orders, search_of}
use Rattle.tables.specs.Rows.{flat}
use Rattle.tables.specs.Check.{same_row}
use Rattle.visits.specs.Visits.{Tables, inputs, row_list}
use Rattle.eval.specs.Evaluation.{evaluate_of, buffer_after}
use Rattle.examples.specs.Bench.{e, reversed, alone, pair, turned, triples, constants_only, out_outs}

-- a refusal's number and place; none where it is fine
abbrev pub refusal_words : Verdict → List ℕ
refusal_words (Ok tt) = []
refusal_words (Err r) = number_in r.rule ∷ r.place ∷ []

-- the two numbers of a swap; none where there is none
abbrev pub swap_words : NextSwap → List ℕ
swap_words g = cond g.is_some (g.swap.0 ∷ g.swap.1 ∷ []) []

-- of each scan, how many of its slots it reads, and its table's number
unfoldable pub flows_and_indexes : List Scan → List ℕ
flows_and_indexes [] = []
flows_and_indexes (s ∷ ss) = inputs s.flow ∷ index_code s.index ∷ flows_and_indexes ss

-- the plans listed for a query, in order
abbrev pub listed_for : Query → List Plan
listed_for q = map (with_scans (plan_of q).plan) (combinations (scans_of (plan_of q).plan))

pub data Question : Type 0 where
  -- how many plans a query has; their costs in order; the scans of the first
  plans : Query → Question
  costs : Query → Question
  scans : Query → Question
  -- the cost that the search finds; what planning refuses, and what the search does
  found : Query → Question
  unplanned : Query → Question
  unfound : Query → Question
  -- the rows of its plan; how many a call from row k on writes, whether another follows (0: none), and the buffer after it
  rows : Query → Tables → Question
  shown : Query → Tables → ℕ → List ℕ → Question
  -- the swaps of n elements, and the orders
  swaps : ℕ → Question
  turns : ℕ → Question
  -- a plan's cost and what cost refuses; what evaluation refuses
  cost : Plan → Question
  uncosted : Plan → Question
  unevaluated : Plan → Tables → Question

abbrev pub said : Bool → ℕ
said true = 1
said false = 0

unfoldable pub answer : Question → List ℕ
answer (plans q) = length (listed_for q) ∷ []
answer (costs q) = map (λ (p : Plan). (cost_of p).cost) (listed_for q)
answer (scans q) = flows_and_indexes (scans_of (plan_of q).plan)
answer (found q) = (search_of q).cost ∷ []
answer (unplanned q) = refusal_words (plan_of q).verdict
answer (unfound q) = refusal_words (search_of q).verdict
answer (rows q ts) = flat (row_list (plan_of q).plan ts)
answer (shown q ts k buffer) =
    (evaluate_of (plan_of q).plan ts k (length buffer)).count ∷ said (evaluate_of (plan_of q).plan ts k (length buffer)).more
    ∷ buffer_after (plan_of q).plan ts k buffer
answer (swaps n) = flat (map (λ t. swap_words (answer_at t (start n))) (up_to (factorial n)))
answer (turns n) = flat (orders n)
answer (cost p) = (cost_of p).cost ∷ []
answer (uncosted p) = refusal_words (cost_of p).verdict
answer (unevaluated p ts) = refusal_words (evaluate_of p ts 0 0).verdict

pub record Line : Type 0 where
  pub question : Question
  pub says : List ℕ

abbrev line : Question → List ℕ → Line
line q l = record { question = q; says = l }

unfoldable pub table : List Line
table =
    -- E has 6 plans; costs in order 1120, 2160, 6120, 5160, 10120, 10160
    line (plans e) (6 ∷ []) ∷
    line (costs e) (1120 ∷ 2160 ∷ 6120 ∷ 5160 ∷ 10120 ∷ 10160 ∷ []) ∷
    -- E reversed is two in-out avet scans, cost 1460, one plan
    line (scans reversed) (1 ∷ 1 ∷ 1 ∷ 1 ∷ []) ∷
    line (costs reversed) (1460 ∷ []) ∷
    -- the search on E picks 1120
    line (found e) (1120 ∷ []) ∷
    -- over the triples E yields rows 11, 11; from row 1 with one word of room: 11, none follows
    line (rows e triples) (11 ∷ 11 ∷ []) ∷
    line (shown e triples 1 (0 ∷ [])) (1 ∷ 0 ∷ 11 ∷ []) ∷
    -- n = 3 swaps: (0,1) (0,2) (0,1) (0,2) (0,1); abc, bac, cab, acb, bca, cba
    line (swaps 3) (0 ∷ 1 ∷ 0 ∷ 2 ∷ 0 ∷ 1 ∷ 0 ∷ 2 ∷ 0 ∷ 1 ∷ []) ∷
    line (turns 3) (0 ∷ 1 ∷ 2 ∷ 1 ∷ 0 ∷ 2 ∷ 2 ∷ 0 ∷ 1 ∷ 0 ∷ 2 ∷ 1 ∷ 1 ∷ 2 ∷ 0 ∷ 2 ∷ 1 ∷ 0 ∷ []) ∷
    -- (x,5,x) alone: 16 from planning, 18 from the search
    line (unplanned alone) (16 ∷ 0 ∷ []) ∷
    line (unfound alone) (18 ∷ 0 ∷ []) ∷
    -- (x,5,y) then (x,7,x): 6 plans; reversed: 16
    line (plans pair) (6 ∷ []) ∷
    line (unplanned turned) (16 ∷ 0 ∷ []) ∷
    -- a plan of constants and no scans: cost 1; evaluation 29 (02, Ticket 9)
    line (cost constants_only) (1 ∷ []) ∷
    line (unevaluated constants_only triples) (29 ∷ 0 ∷ []) ∷
    -- nine out-out aevt scans on one attribute: 1050505050505050520; ten: 27 at scan 0
    line (cost (out_outs 9)) (1050505050505050520 ∷ []) ∷
    line (uncosted (out_outs 10)) (27 ∷ 0 ∷ []) ∷ []

-- the one claim
unfoldable pub hold : List Line → Bool
hold [] = true
hold (l ∷ ls) = same_row (answer l.question) l.says && hold ls
