-- How an answer stands in four words, and what the words of a plan, an order, types or a swap state hold after a call.
use Rattle.std.specs.Prelude.{ℕ, Bool, true, false, List, [], ◌∷◌, length}
use Rattle.refusal.specs.Verdict.{Verdict}
use Rattle.refusal.specs.Verdict.{number_of, place_of, unless}
use Rattle.plan.specs.declared.Plan.{Plan}
use Rattle.plan.specs.Plan.{scans_of}
use Rattle.permutation.specs.declared.Permutations.{Permutations}
use Rattle.permutation.specs.declared.Swap.{Swap}
use Rattle.permutation.specs.Answered.{Step}
use Rattle.permutation.specs.Swaps.{next_swap_of as step_of}
use Rattle.loader_swap_words.specs.State.{state_of_words, words_of_state}
use Rattle.loader_words.specs.Words.{plan_of_words, query_of_words}
use Rattle.loader_plan_words.specs.Write.{words_of_plan, with_indexes}
use Rattle.planner.specs.Answered.{Planned}
use Rattle.planner.specs.Planning.{plan_of}
use Rattle.search.specs.Answered.{Found}
use Rattle.search.specs.Search.{search_of}
use Rattle.types.specs.Answered.{Inferred}
use Rattle.types.specs.Types.{inferred_of}
use Rattle.listing.specs.Answered.{NextPlan}
use Rattle.listing.specs.Next.{next_plan_of}
use Rattle.tables_build.specs.Answered.{Built}
use Rattle.eval.specs.Answered.{Evaluated}
use Rattle.text_names.specs.Names.{select_name_fault, select_name_of}
use Rattle.plan_text.specs.Answered.{Formatted}
use Rattle.image.specs.Answered.{Stored}

-- number, place, and what else the call answers
abbrev pub answer_of : Verdict → ℕ → ℕ → List ℕ
answer_of v first second = number_of v ∷ place_of v ∷ first ∷ second ∷ []

-- yes is 1
abbrev pub bit : Bool → ℕ
bit true = 1
bit false = 0

-- the plan's words, or where it is refused what was there
abbrev pub plan_after : Verdict → Plan → List ℕ → List ℕ
plan_after v p before = unless v (λ _. before) (words_of_plan p)

-- a plan's words after a step: the index words of the scans that count are those of the stepped scans, every other word is as it was
abbrev pub stepped_after : NextPlan → List ℕ → List ℕ
stepped_after n before = unless n.verdict (λ _. before) (with_indexes (scans_of n.plan) 0 before)

-- the order, in the same way
abbrev pub order_after : Verdict → List ℕ → List ℕ → List ℕ
order_after v order before = unless v (λ _. before) order

-- the types of the variables, in the same way
abbrev pub types_after : Inferred → List ℕ → List ℕ
types_after i before = unless i.verdict (λ _. before) i.types

-- a swap state's words and the two positions of a swap, in the same way
abbrev pub state_after : Verdict → Permutations → List ℕ → List ℕ
state_after v s before = unless v (λ _. before) (words_of_state s)

abbrev pub swap_after : Verdict → Swap → List ℕ → List ℕ
swap_after v w before = unless v (λ _. before) (w.0 ∷ w.1 ∷ [])

-- what planning, the search, type inference, `next` of plans and `next` of swaps answer of what words say
abbrev pub planned_of : List ℕ → Planned
planned_of query = plan_of (query_of_words query)

abbrev pub found_of : List ℕ → Found
found_of query = search_of (query_of_words query)

abbrev pub typed_of : List ℕ → List ℕ → Inferred
typed_of query table = inferred_of (query_of_words query) table

abbrev pub stepped_of : List ℕ → NextPlan
stepped_of plan = next_plan_of (plan_of_words plan)

abbrev pub swapped_of : List ℕ → Step
swapped_of state = step_of (state_of_words state)

-- building: how many rows the tables have
abbrev pub built_words : Built → List ℕ
built_words b = answer_of b.verdict b.count 0

-- evaluation: how many rows, and whether another follows
abbrev pub evaluated_words : Evaluated → List ℕ
evaluated_words e = answer_of e.verdict e.count (bit e.more)

-- text: its length
abbrev pub formatted_words : Formatted → List ℕ
formatted_words f = answer_of f.verdict f.length 0

-- a select's name: its length
abbrev pub name_words : Plan → List ℕ → List ℕ → ℕ → List ℕ
name_words p names ends i = answer_of (select_name_fault p names ends i) (length (select_name_of p names ends i)) 0

-- a stored plan: its length
abbrev pub stored_words : Stored → List ℕ
stored_words s = answer_of s.verdict s.length 0
