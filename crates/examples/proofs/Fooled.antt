-- What does not mean E: rows without the duplicate, no rows, rows copied in from other tables, and the rows of a plan over another attribute.
use mathlib.Core.Path.{◌≡◌, refl}
use mathlib.Core.List.{List, [], ◌∷◌}
use Prim.Native.Nat.{ℕ}
use native.Mathlib.Omega.{arith}
use Rattle.capacity.specs.Capacity.{max_statements, max_selects}
use Rattle.std.specs.Prelude.{Ok}
use Rattle.refusal.specs.Verdict.{first_fault, refuse_first}
use Rattle.lists.specs.Padded.{padded}
use Rattle.lists.proofs.Padded.{padded-length}
use Rattle.orders.specs.Times.{same, holds, times_in}
use Rattle.orders.proofs.Counts.{holds-yes}
use Rattle.query.specs.Query.{named}
use Rattle.query_check.specs.Refusals.{constants, statements_fault, selects_fault, unused_fault, capacity_fault, variables_fault, query_fault}
use Rattle.planner.specs.Refusals.{bound_twice_fault, plan_fault}
use Rattle.planner.specs.Planning.{slots_of_constants, scan_of, scans_for, plan_for, plan_of}
use Rattle.lists.specs.Span.{span}
use Rattle.tables.specs.Rows.{row, before, ascending, begins, keep, matching}
use Rattle.tables.specs.Check.{same_row, is_among, missing_fault, tables_fault}
use Rattle.visits.specs.Visits.{Tables, visited, standing, each, visits, slots_at, row_list}
use Rattle.meaning.specs.Demand.{Meaning, initial_plan}
use Rattle.meaning.proofs.SameRows.{same_rows}
use Rattle.meaning.proofs.Shown.{fine-same}
use Rattle.meaning.proofs.Entries.{plan-shown}
use Rattle.examples.specs.Bench.{e, over_attribute, triples, no_triples}

-- E is planned
accepted : (plan_of e).verdict ≡ Ok tt
unfolding plan_of plan_fault query_fault capacity_fault variables_fault constants refuse_first first_fault statements_fault selects_fault unused_fault span named bound_twice_fault padded
accepted = refl

-- its plan's rows mean it, over any tables that pass their check
e-means : (ts : Tables) → tables_fault ts.aevt ts.avet ts.eavt ≡ Ok tt → Meaning ts e (row_list (plan_of e).plan ts)
e-means ts fine = (plan-shown e (padded-length _ max_statements _) (padded-length _ max_selects _) accepted initial_plan ts (fine-same ts fine)).meaning

triples-pass : tables_fault triples.aevt triples.avet triples.eavt ≡ Ok tt
unfolding tables_fault refuse_first first_fault missing_fault is_among same_row ascending before row span
triples-pass = refl

none_pass : tables_fault [] [] [] ≡ Ok tt
unfolding tables_fault refuse_first first_fault missing_fault ascending span
none_pass = refl

-- a row of 11 counts
eleven : holds (same (11 ∷ []) (11 ∷ [])) ≡ 1
eleven = holds-yes (same (11 ∷ []) (11 ∷ [])) refl

-- 11 stands twice in any rows that mean E over the triples
pub eleven-twice : (r : List (List ℕ)) → Meaning triples e r → times_in (11 ∷ []) r ≡ 2
unfolding times_in plan_of plan_fault query_fault capacity_fault variables_fault constants refuse_first first_fault statements_fault selects_fault unused_fault named bound_twice_fault padded plan_for scans_for scan_of slots_of_constants row_list visits visited standing each slots_at matching keep begins span row
eleven-twice r m = omega (arith, same_rows m (e-means triples triples-pass) (11 ∷ []), eleven)

pub not-deduplicated : Meaning triples e ((11 ∷ []) ∷ []) → ⊥
unfolding times_in
not-deduplicated m = omega (arith, eleven-twice _ m, eleven)

pub not-nothing : Meaning triples e [] → ⊥
unfolding times_in
not-nothing m = omega (arith, eleven-twice _ m)

pub not-copied : Meaning no_triples e ((11 ∷ []) ∷ (11 ∷ []) ∷ []) → ⊥
unfolding times_in plan_of plan_fault query_fault capacity_fault variables_fault constants refuse_first first_fault statements_fault selects_fault unused_fault named bound_twice_fault padded plan_for scans_for scan_of slots_of_constants row_list visits visited standing each slots_at matching keep begins span row
not-copied m = omega (arith, same_rows m (e-means no_triples none_pass) (11 ∷ []), eleven)

pub not-another-attribute : Meaning triples e (row_list over_attribute triples) → ⊥
unfolding times_in padded row_list visits visited standing each slots_at matching keep begins span row
not-another-attribute m = omega (arith, eleven-twice _ m)
