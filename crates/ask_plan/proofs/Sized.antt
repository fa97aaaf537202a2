-- The plan of a question has an array of selects of the full length, also where it is refused.
use mathlib.Core.Path.{◌≡◌}
use Prim.Native.Nat.{ℕ}
use mathlib.Core.Bool.{Bool, true, false, cond}
use mathlib.Core.List.{List, [], ◌∷◌, map}
use lib.ListN.{length, get_or, length-replicate}
use lib.Dec.{ltb}
use Rattle.capacity.specs.Capacity.{max_selects, max_searched}
use Rattle.refusal.specs.Verdict.{Verdict}
use Rattle.std.specs.Prelude.{Ok, Err}
use Rattle.refusal.specs.Verdict.{refuse_if, or_else, unless}
use Rattle.lists.proofs.Padded.{padded-length}
use Rattle.query.specs.declared.Statement.{Statement}
use Rattle.query.specs.declared.Query.{Query}
use Rattle.query.specs.Query.{statements_of, selects_of}
use Rattle.query_check.specs.Refusals.{query_fault}
use Rattle.plan.specs.declared.Slot.{Slot}
use Rattle.plan.specs.declared.Plan.{Plan}
use Rattle.plan.specs.Plan.{zero_slot, empty_plan}
use Rattle.planner.specs.Answered.{Planned}
use Rattle.planner.specs.Refusals.{plan_fault}
use Rattle.planner.specs.Planning.{slot_of, plan_for, plan_of}
use Rattle.search.specs.Answered.{Found}
use Rattle.search.specs.Search.{Candidate, orders, candidates, not_found, first_least, search_of}
use Rattle.cost.specs.Cost.{cost_of}
use Rattle.ask_question.specs.Parts.{parts_of, items_of}
use Rattle.ask_question.specs.Asked.{query_of}
use Rattle.ask_plan.specs.Answered.{Answer}
use Rattle.ask_plan.specs.Answer.{refused_with, searches, planned_for, costed_for, planned_with_cost, types_asked, answer_with, answer_of}

-- a plan whose array of selects has the full length
abbrev Sized : Plan → Type 0
Sized p = length p.select ≡ max_selects

empty-sized : Sized empty_plan
empty-sized = length-replicate {0} {A = Slot} max_selects zero_slot

made-sized : (q : Query) (ss : List Statement) → Sized (plan_for q ss)
unfolding plan_for
made-sized q ss = padded-length zero_slot max_selects (map slot_of (selects_of q))

-- planning
given-sized : (q : Query) → Sized (plan_of q).plan
unfolding plan_of
given-sized q = by_cases (plan_fault q)
  where
    by_cases : (v : Verdict)
        → Sized (unless {A = Planned} v (λ w. record { verdict = w; plan = empty_plan })
        (record { verdict = Ok tt; plan = plan_for q (statements_of q) })).plan
    by_cases (Ok tt) = made-sized q _
    by_cases (Err r) = empty-sized

-- the search
found-sized : (q : Query) → Sized (search_of q).plan
unfolding search_of
found-sized q =
    by_cases (or_else (query_fault q) (refuse_if (ltb max_searched q.where_statements.count) 17 0))
    (candidates q.variable_count (statements_of q) (orders q.where_statements.count))
  where
    by_cases : (v : Verdict) (cs : List Candidate) → Sized (unless {A = Found} v not_found (first_least q cs)).plan
    by_cases (Ok tt) [] = empty-sized
    by_cases (Ok tt) (c ∷ cs) = made-sized q _
    by_cases (Err r) cs = empty-sized

planned-sized : (task : ℕ) (q : Query) → Sized (planned_for task q).plan
unfolding planned_for
planned-sized task q = by_cases (searches task)
  where
    by_cases : (t : Bool) → Sized (cond {A = Planned} t (record { verdict = (search_of q).verdict; plan = (search_of q).plan }) (plan_of q)).plan
    by_cases true = found-sized q
    by_cases false = given-sized q

either-sized : (v : Verdict) (a : Answer) → Sized a.plan → Sized (unless {A = Answer} v refused_with a).plan
either-sized (Ok tt) a h = h
either-sized (Err r) a h = empty-sized

with-cost-sized : (task : ℕ) (q : Query) → Sized (planned_with_cost task q).plan
unfolding planned_with_cost costed_for
with-cost-sized task q =
    let planned = planned_for task q in
    let p = planned.plan in
    either-sized planned.verdict (costed_for p)
    (either-sized (cost_of p).verdict (record { verdict = Ok tt; plan = p; cost = (cost_of p).cost }) (planned-sized task q))

pub answer-sized : (ws : List ℕ) → Sized (answer_of ws).plan
unfolding answer_with
answer-sized ws =
    let task = get_or ws 0 0 in
    let q = query_of ws in
    either-sized (types_asked task q (items_of ws (parts_of ws).types)) (planned_with_cost task q) (with-cost-sized task q)
