-- The plan of a query that is not refused is as the plan check promises: part by part, from what it says that nothing is refused.
use mathlib.Core.Path.{◌≡◌, refl, ap, ◌∙◌}
use Prim.Native.Nat.{ℕ, suc, ◌+◌, ◌≤◌, ◌<◌}
use mathlib.Core.List.{List, [], map}
use mathlib.Core.Bool.{Bool, true, false}
use native.Mathlib.Nat.{zero-add}
use native.Mathlib.Omega.{arith}
use borrow.Author.Tests.{leb-true, leb-false}
use lib.ListN.{length, get_or, take, length-map, get_or-map}
use lib.Seq.{take-suc, take-length, length-take-le}
use lib.Dec.{leb}
use Rattle.capacity.specs.Capacity.{max_statements, max_scans, max_slots, max_selects}
use Rattle.std.specs.Prelude.{Ok}
use Rattle.refusal.proofs.Fine.{or-fine}
use Rattle.lists.proofs.Padded.{padded-take}
use Rattle.query.specs.declared.Var.{Var}
use Rattle.query.specs.declared.Statement.{Statement}
use Rattle.query.specs.declared.Query.{Query}
use Rattle.query.specs.Query.{statements_of, selects_of, zero_var, zero_statement}
use Rattle.query_check.specs.Refusals.{constants_in, constants, statements_fault, selects_fault, unused_fault, capacity_fault, variables_fault, query_fault}
use Rattle.query_check.proofs.Variables.{statements-below}
use Rattle.plan.specs.Plan.{zero_slot, zero_scan, variable_slot, scans_of, slots_of, slots_selected}
use Rattle.plan_check.specs.Check.{is_set}
use Rattle.plan_check.specs.Promised.{Fits, Promised}
use Rattle.planner.specs.Refusals.{bound_twice_fault}
use Rattle.planner.specs.Planning.{slot_of, scans_for, slots_for, plan_for}
use Rattle.planner.proofs.Statements.{constants-more, constants-within, length-scans}
use Rattle.planner.proofs.Accepted.{query-fits}
use Rattle.planned.proofs.Slots.{slots_length, variable-slot, variable-set, constant-set}
use Rattle.planned.proofs.Places.{take-scans, scan-at, bound-once, selects-below, all_named}
use Rattle.planned.proofs.ScanFits.{scan-fits}

module _ (q : Query) (ss : List Statement) where
  abbrev variables : ℕ
  variables = q.variable_count

  -- below its counts the plan has the statements' scans
  pub planned-scans : length ss ≡ q.where_statements.count → q.where_statements.count ≤ max_scans → scans_of (plan_for q ss) ≡ scans_for [] ss variables
  unfolding plan_for
  planned-scans e h = padded-take zero_scan max_scans _ (scans_for [] ss variables) (length-scans [] ss variables ∙ e) h

  -- the variables' slots and the constants'
  pub planned-slots : variables + constants ss ≤ max_slots → slots_of (plan_for q ss) ≡ slots_for variables ss
  unfolding plan_for
  planned-slots h = padded-take variable_slot max_slots _ (slots_for variables ss) (slots_length variables ss) h

  -- and the selected variables' slots
  pub planned-selects : length (selects_of q) ≡ q.select.count → q.select.count ≤ max_selects → slots_selected (plan_for q ss) ≡ map slot_of (selects_of q)
  unfolding plan_for
  planned-selects e h = padded-take zero_slot max_selects _ (map slot_of (selects_of q)) (simp length-map e) h

-- there is a constant's slot for statement j
room : (ss : List Statement) (j : ℕ) (d : Statement) → j < length ss → constants (take j ss) + constants_in (get_or ss j d).value ≤ constants ss
room ss j d h =
    let t = ap constants (take-suc ss j d h) ∙ constants-more (take j ss) (get_or ss j d) in
    omega (arith, t, rw take-length at (constants-within ss (suc j) (length ss) h))

module _ (n : ℕ) (ss : List Statement) where
  -- 14 and 16: each scan fits
  each_fits : statements_fault n ss 0 ≡ Ok tt → bound_twice_fault [] ss 0 ≡ Ok tt → (j : ℕ) → j < length (scans_for [] ss n)
      → Fits (slots_for n ss) (take j (scans_for [] ss n)) (get_or (scans_for [] ss n) j zero_scan)
  each_fits low once j h =
      let z = zero_statement in
      let here : j < length ss = rw length-scans at h in
      rw (take-scans [] ss n j, scan-at [] ss n j zero_scan z here)
      (scan-fits n ss (take j ss) (get_or ss j z) (statements-below n ss 0 low j z here) (bound-once [] ss 0 once j z here) (n + constants (take j ss))
      (omega arith)
      (omega (arith, room ss j z here)))

  -- 15: each slot is set
  each_set : unused_fault ss n 0 ≡ Ok tt → (k : ℕ) → k < n + constants ss → is_set (slots_for n ss) (scans_for [] ss n) k ≡ true
  each_set used k h = go (leb n k) refl
    where
      go : (b : Bool) → leb n k ≡ b → is_set (slots_for n ss) (scans_for [] ss n) k ≡ true
      go true e = constant-set n ss (scans_for [] ss n) k (leb-true _ _ e) h
      go false e = let l : k < n = leb-false _ _ e in variable-set n ss ss n k l ∙ rw zero-add at (all_named ss n 0 used k l)

-- 14: each select is a slot
each-selected : (n : ℕ) (vs : List Var) (i : ℕ) → selects_fault n vs i ≡ Ok tt → (j : ℕ) → j < length (map slot_of vs)
    → (get_or (map slot_of vs) j zero_slot).0 < n
each-selected n vs i low j h =
    let here : j < length vs = rw length-map at h in
    rw (get_or-map slot_of vs j zero_var) (selects-below n vs i low j zero_var here)

module _ (q : Query) (statements_sized : length q.where_statements.items ≡ max_statements) (selects_sized : length q.select.items ≡ max_selects)
    (fine : query_fault q ≡ Ok tt) where
  -- 10 to 16: the plan is as promised
  pub plan-promised : bound_twice_fault [] (statements_of q) 0 ≡ Ok tt → Promised (plan_for q (statements_of q))
  unfolding plan_for query_fault variables_fault
  plan-promised once =
      let n = q.variable_count in
      let m = q.where_statements.count in
      let ss = statements_of q in
      let c = q.select.count in
      let vs = selects_of q in
      let f = query-fits q fine in
      let a = or-fine (statements_fault n ss 0) _ (or-fine (capacity_fault n m ss c) _ fine).1 in
      let b = or-fine (selects_fault n vs m) _ a.1 in
      let scans = planned-scans q ss (length-take-le m _ (omega arith)) f.few_statements in
      let slots = planned-slots q ss f.few_slots in
      let selects = planned-selects q ss (length-take-le c _ (omega arith)) f.few_selects in
      record {
        few_scans = f.few_statements;
        few_slots = f.few_slots;
        few_selects = f.few_selects;
        some_select = f.some_select;
        scans_fit = rw (scans, slots) (each_fits n ss a.0 once);
        all_set = rw (scans, slots) (λ k h. each_set n ss b.1 k (rw slots_length at h));
        selects_named = rw (selects, slots, slots_length) (λ j h. omega (arith, each-selected n vs m b.0 j h));
        selects_variable = rw (selects, slots) (λ j h. variable-slot n ss _ (each-selected n vs m b.0 j h));
      }
