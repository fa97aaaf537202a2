-- What the rows mean of a plan listed for a query in the order in which its statements are given, and that such a plan passes the check.
use mathlib.Core.Path.{◌≡◌, refl, sym, ap, ◌∙◌}
use mathlib.Core.List.{List, [], ◌∷◌, ◌++◌, map, map-append}
use Prim.Native.Nat.{ℕ, zero, suc, ◌+◌, ◌≤◌, ◌<◌, suc-le-suc}
use native.Mathlib.Nat.{zero-add}
use native.Mathlib.Omega.{arith}
use lib.ListN.{length, get_or, take, replicate}
use lib.Seq.{get_or-take, length-take-le}
use Rattle.std.specs.Prelude.{Ok}
use Rattle.query.specs.declared.Var.{Var}
use Rattle.query.specs.declared.Statement.{Statement}
use Rattle.query.specs.declared.Query.{Query}
use Rattle.query.specs.Query.{statements_of, selects_of}
use Rattle.query_check.specs.Refusals.{constants}
use Rattle.query_check.proofs.Capacity.{Fits}
use Rattle.query_check.proofs.Variables.{statements-below}
use Rattle.plan.specs.declared.Scan.{Scan}
use Rattle.plan.specs.declared.SlotRecord.{SlotRecord}
use Rattle.plan.specs.declared.Plan.{Plan}
use Rattle.plan.specs.Plan.{variable_slot, scans_of, slots_of, slots_selected}
use Rattle.plan_check.specs.Check.{check_of}
use Rattle.plan_check.specs.Promised.{Promised}
use Rattle.plan_check.proofs.Promises.{promises}
use Rattle.planner.specs.Planning.{slot_of, slots_of_constants, scans_for, slots_for, plan_for, plan_of}
use Rattle.planner.proofs.Accepted.{query-fits}
use Rattle.planned.proofs.Slots.{slots_length, constant-set}
use Rattle.planned.proofs.Places.{selects-below, all_named}
use Rattle.planned.proofs.Promised.{planned-slots, planned-selects}
use Rattle.planned.proofs.Passes.{plan-there, plan-scans, plan-fits, plan-passes}
use Rattle.listing.specs.Next.{with_scans}
use Rattle.listing.proofs.SameAccesses.{SameScans}
use Rattle.listing.proofs.Passes.{same-scans, same-passes}
use Rattle.tables.specs.Passed.{Passed}
use Rattle.visits.specs.Visits.{Tables, start_value, initial_slots, selected, slots_at, visits, row_list}
use Rattle.visits.proofs.Steady.{promised-sound, promised-last, constant-kept}
use Rattle.query_check.specs.Clear.{Clear}
use Rattle.meaning.specs.Demand.{through, Meaning}
use Rattle.meaning.proofs.Parts.{parts}
use Rattle.meaning.proofs.Stated.{constants_of}
use Rattle.meaning.proofs.Assigned.{begun, Answering, assigned, assigned-every, assigned-only, assigned-once}

-- the selected variables' slots hold their numbers
selected-through : (n : ℕ) (vs : List Var) → ((j : ℕ) (d : Var) → j < length vs → (get_or vs j d).0 < n) → (slots : List ℕ)
    → selected (map slot_of vs) slots ≡ through vs (take n slots)
selected-through n [] h slots = refl
selected-through n (v ∷ vs) h slots =
    let e : get_or slots v.0 0 ≡ get_or (take n slots) v.0 0 = sym (get_or-take n slots v.0 0 (h 0 v (omega arith))) in
    let r = selected-through n vs (λ j d g. h (suc j) d (suc-le-suc g)) slots in
    cc

map-through : (n : ℕ) (vs : List Var) → ((j : ℕ) (d : Var) → j < length vs → (get_or vs j d).0 < n) → (g : List ℕ → List ℕ) (ws : List (List ℕ))
    → map (λ w. selected (map slot_of vs) (g w)) ws ≡ map (through vs) (map (take n) (map g ws))
map-through n vs h g [] = refl
map-through n vs h g (w ∷ ws) =
    let e = selected-through n vs h (g w) in
    let r = map-through n vs h g ws in
    cc

-- a variable's slot holds 0 at first
variables-begun : (n : ℕ) → map (λ (s : SlotRecord). start_value s.definition) (replicate n variable_slot) ≡ replicate n 0
variables-begun zero = refl
variables-begun (suc n) = ap (λ (l : List ℕ). 0 ∷ l) (variables-begun n)

module _ (q : Query) (clear : Clear q) (accepted : (plan_of q).verdict ≡ Ok tt) where
  abbrev n : ℕ
  n = q.variable_count

  abbrev ss : List Statement
  ss = statements_of q

  abbrev first : Plan
  first = (plan_of q).plan

  fits : Fits n q.where_statements.count ss q.select.count
  fits = query-fits q clear.fine

  there : first ≡ plan_for q ss
  there = plan-there q clear.statements_sized clear.selects_sized accepted

  first-scans : scans_of first ≡ scans_for [] ss n
  first-scans = plan-scans q clear.statements_sized clear.selects_sized accepted

  first-slots : slots_of first ≡ slots_for n ss
  first-slots = rw there (planned-slots q ss fits.few_slots)

  pub first_count : first.scan_count ≡ q.where_statements.count
  first_count = ap (λ (p : Plan). p.scan_count) there ∙ (unfold plan_for in refl)

  pub first-selects : slots_selected first ≡ map slot_of (selects_of q)
  first-selects =
      let f = fits in
      let z = clear.selects_sized in
      rw there (planned-selects q ss (length-take-le _ _ (omega arith)) f.few_selects)

  pub first_fits : first.scan_count ≤ length first.scans
  first_fits = plan-fits q clear.statements_sized clear.selects_sized accepted

  selects-low : (j : ℕ) (d : Var) → j < length (selects_of q) → (get_or (selects_of q) j d).0 < n
  selects-low = selects-below n (selects_of q) q.where_statements.count (parts q clear.fine).selects_fine

  -- a plan of other scans of the same cycles
  module _ (l : List Scan) (same : SameScans (scans_of first) l) where
    abbrev listed_plan : Plan
    listed_plan = with_scans first l

    pub listed-scans : scans_of listed_plan ≡ l
    listed-scans = same-scans first l first_fits same

    pub listed-checked : check_of listed_plan ≡ Ok tt
    listed-checked = same-passes first l first_fits same (plan-passes q clear.statements_sized clear.selects_sized accepted)

    listed-promised : Promised listed_plan
    listed-promised = promises listed_plan listed-checked

    begun-is : initial_slots listed_plan ≡ begun n ss
    begun-is =
        ap (map (λ (s : SlotRecord). start_value s.definition)) first-slots ∙
        map-append (λ (s : SlotRecord). start_value s.definition) (replicate n variable_slot) (slots_of_constants ss) ∙
        ap (λ (z : List ℕ). z ++ constants_of ss) (variables-begun n)

    answering : Answering n ss l
    answering =
        let b = parts q clear.fine in
        let size : length (slots_of listed_plan) ≡ n + constants ss = ap length first-slots ∙ slots_length n ss in
        record {
          same = rw first-scans at same;
          stays =
              λ i h.
              let low : i < length (scans_of listed_plan) = rw listed-scans h in
              (rw (listed-scans, size) at (promised-sound listed_plan listed-promised i low), rw listed-scans at (promised-last listed_plan listed-promised i low));
          below = statements-below n ss 0 b.statements_fine;
          all_named = λ x h. rw zero-add at (all_named ss n 0 b.used_fine x h);
          constants_kept =
              λ j h.
              rw listed-scans at (constant-kept listed_plan listed-promised (n + j) (rw first-slots (constant-set n ss [] (n + j) (omega arith) (omega arith))));
        }

    module _ (ts : Tables) (passed : Passed ts.aevt ts.avet ts.eavt) where
      given-rows : row_list listed_plan ts ≡ map (through (selects_of q)) (assigned ts passed n ss l answering)
      unfolding row_list
      given-rows =
          rw (listed-scans, begun-is, first-selects)
          (map-through n (selects_of q) selects-low (slots_at ts l (begun n ss)) (visits ts l (begun n ss)))

      pub given-meaning : Meaning ts q (row_list listed_plan ts)
      given-meaning = record {
        assignments = assigned ts passed n ss l answering;
        answers = record {
          none_twice = assigned-once ts passed n ss l answering;
          every = λ a m. omega (arith, assigned-every ts passed n ss l answering a m.one_per_variable m.all_facts);
          only =
              λ a h.
              let w = assigned-only ts passed n ss l answering a h in
              record { one_per_variable = w.0; all_facts = w.1 };
        };
        rows_are = given-rows;
      }
