-- The one claim, which the checker computes, and each line that it makes.
use mathlib.Core.Path.{◌≡◌, refl}
use mathlib.Core.Bool.{true}
use mathlib.Core.List.{List, [], ◌∷◌}
use Prim.Native.Nat.{ℕ, zero, suc, ◌<◌}
use native.Mathlib.Nat.{not-suc-le-zero, le_of_suc-le-suc}
use lib.ListN.{length, get_or}
use Rattle.lists.specs.Padded.{padded}
use Rattle.refusal.specs.Verdict.{first_fault, refuse_first}
use Rattle.permutation.specs.Swaps.{elements_fault, stop_from, cleared, next_swap_of}
use Rattle.orders.specs.Lists.{swapped, factorial}
use Rattle.orders.specs.Listing.{answer_at, listed}
use Rattle.query.specs.Query.{named}
use Rattle.query_check.specs.Refusals.{constants, statements_fault, selects_fault, unused_fault, capacity_fault, variables_fault, query_fault}
use Rattle.plan.specs.Plan.{counts_fault, out_out_fault, flows_fault}
use Rattle.plan_check.specs.Check.{is_written, is_set, slot_fault, scan_fault, scans_fault, unset_fault, initialization_fault, select_fault, selects_fault as planSelectsFault, check_of}
use Rattle.cost.specs.Cost.{index_used, key_used, weight, weight_fault, cost_of}
use Rattle.planner.specs.Refusals.{bound_twice_fault, plan_fault}
use Rattle.planner.specs.Planning.{slots_of_constants, scan_of, scans_for, plan_for, plan_of}
use Rattle.listing.specs.Listing.{each_before, combinations}
use Rattle.search.specs.Search.{candidates_of, candidates, least_from, search_of}
use Rattle.lists.specs.Span.{span}
use Rattle.tables.specs.Rows.{row, before as earlier, ascending, begins, keep, matching, flat}
use Rattle.tables.specs.Check.{same_row, is_among, missing_fault, tables_fault}
use Rattle.tables.proofs.Order.{both}
use Rattle.tables.proofs.Pigeonhole.{same-equal}
use Rattle.visits.specs.Visits.{visited, standing, each, visits, slots_at, row_list}
use Rattle.visits.specs.Window.{window}
use Rattle.eval.specs.Evaluation.{evaluation_fault, evaluate_of, buffer_after}
use Rattle.examples.specs.Table.{flows_and_indexes, answer, Line, table, hold}

pub claim : hold table ≡ true
unfolding table hold answer flows_and_indexes same_row plan_of plan_fault query_fault capacity_fault variables_fault constants refuse_first first_fault statements_fault selects_fault unused_fault named bound_twice_fault plan_for scans_for scan_of slots_of_constants padded combinations each_before cost_of flows_fault counts_fault out_out_fault weight_fault weight index_used key_used search_of candidates candidates_of least_from factorial span listed answer_at next_swap_of elements_fault stop_from cleared swapped row_list visits visited standing each slots_at matching keep begins row flat evaluate_of buffer_after evaluation_fault check_of initialization_fault scans_fault scan_fault slot_fault is_set is_written unset_fault select_fault planSelectsFault tables_fault missing_fault is_among ascending earlier window
claim = refl

-- from the claim, each line
line-holds : (ls : List Line) → hold ls ≡ true → (i : ℕ) → i < length ls → (d : Line) → answer (get_or ls i d).question ≡ (get_or ls i d).says
unfolding hold
line-holds [] h i l d = absurd (not-suc-le-zero l)
line-holds (x ∷ ls) h zero l d = same-equal _ _ (both (same_row (answer x.question) x.says) (hold ls) h).0
line-holds (x ∷ ls) h (suc i) l d = line-holds ls (both (same_row (answer x.question) x.says) (hold ls) h).1 i (le_of_suc-le-suc l) d

pub each_line : (i : ℕ) → i < length table → (d : Line) → answer (get_or table i d).question ≡ (get_or table i d).says
each_line = line-holds table claim
