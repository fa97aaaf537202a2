-- docs/LAYOUT.md: what is planned for a question. The first refusal is that of the types where the task has them checked, then that of
-- planning or the search, then that of the cost.
use Rattle.std.specs.Prelude.{Result}
use Rattle.refusal.specs.Verdict.{Refusal, answer}
use Rattle.ask_plan.specs.declared.Chosen.{Chosen}
use Rattle.std.specs.Prelude.{ℕ, Bool, cond, ◌||◌, List, get_or, eqb}
use Rattle.refusal.specs.Verdict.{Verdict}
use Rattle.std.specs.Prelude.{Ok}
use Rattle.refusal.specs.Verdict.{unless}
use Rattle.plan.specs.declared.Plan.{Plan}
use Rattle.plan.specs.Plan.{empty_plan}
use Rattle.query.specs.declared.Query.{Query}
use Rattle.planner.specs.Answered.{Planned}
use Rattle.planner.specs.Planning.{plan_of}
use Rattle.types.specs.Types.{inferred_of}
use Rattle.search.specs.Search.{search_of}
use Rattle.cost.specs.Cost.{cost_of}
use Rattle.ask_question.specs.Parts.{checks_types, parts_of, items_of}
use Rattle.ask_question.specs.Asked.{query_of}
use Rattle.ask_plan.specs.Answered.{Answer}

-- refused: the empty plan, and no cost
abbrev pub refused_with : Verdict → Answer
refused_with v = record { verdict = v; plan = empty_plan; cost = 0 }

-- tasks 1 and 3 are the search
unfoldable pub searches : ℕ → Bool
searches task = eqb task 1 || eqb task 3

-- the others plan the statements in the order given
unfoldable pub planned_for : ℕ → Query → Planned
planned_for task q = cond (searches task) (record { verdict = (search_of q).verdict; plan = (search_of q).plan }) (plan_of q)

-- a plan and its cost
unfoldable pub costed_for : Plan → Answer
costed_for p = unless (cost_of p).verdict refused_with (record { verdict = Ok tt; plan = p; cost = (cost_of p).cost })

-- the plan for a task and a query, and its cost
unfoldable pub planned_with_cost : ℕ → Query → Answer
planned_with_cost task q = unless (planned_for task q).verdict refused_with (costed_for (planned_for task q).plan)

-- where the task has types checked: planning's own checks in the order given, then 50 to 52
unfoldable pub types_asked : ℕ → Query → List ℕ → Verdict
types_asked task q types = cond (checks_types task) (inferred_of q types).verdict (Ok tt)

-- the plan for a task, a query and a table of types, and its cost
unfoldable pub answer_with : ℕ → Query → List ℕ → Answer
answer_with task q types = unless (types_asked task q types) refused_with (planned_with_cost task q)

-- the plan of a question and its cost: the task is the header's first number
abbrev pub answer_of : List ℕ → Answer
answer_of ws = answer_with (get_or ws 0 0) (query_of ws) (items_of ws (parts_of ws).types)

-- what planning for a task answers
abbrev pub said_answer : Answer → Result Chosen Refusal
said_answer a = answer a.verdict (record { plan = a.plan; cost = a.cost })
