-- Evaluation shows windows of the rows that mean a query, of every plan that `next` reaches from the one that planning makes of it.
use mathlib.Core.Path.{◌≡◌, refl, ap, ◌∙◌}
use Prim.Native.Nat.{ℕ, zero, suc, ◌+◌, ◌<◌}
use native.Mathlib.Omega.{arith}
use mathlib.Core.List.{List, []}
use mathlib.Core.Bool.{true, false, false≢true}
use borrow.Author.Tests.{ne_eqb}
use lib.ListN.{length, get_or, take, length-map}
use lib.Seq.{length-take-le}
use lib.Dec.{eqb}
use Rattle.std.specs.Prelude.{Ok}
use Rattle.refusal.proofs.Fine.{or-fine}
use Rattle.refusal.proofs.First.{each-passes}
use Rattle.query.specs.declared.Query.{Query}
use Rattle.query.specs.Query.{statements_of, selects_of, named, zero_var}
use Rattle.query_check.specs.Clear.{Clear}
use Rattle.plan.specs.declared.Scan.{Scan}
use Rattle.plan.specs.declared.Plan.{Plan}
use Rattle.plan.specs.Plan.{zero_scan, scans_of, slots_selected, counts_fault, out_out_fault, flows_fault}
use Rattle.plan_check.specs.Check.{check_of}
use Rattle.plan_check.proofs.Promises.{promises}
use Rattle.planner.specs.Planning.{slot_of, plan_of}
use Rattle.planner.proofs.Accepted.{query-fits}
use Rattle.planned.proofs.Places.{selects-below, all_named}
use Rattle.planned.proofs.Passes.{plan-initial, plan-passes}
use Rattle.listing.specs.Next.{with_scans}
use Rattle.listing.specs.Listing.{combinations, Initial}
use Rattle.listing.proofs.SameAccesses.{SameScans}
use Rattle.listing.proofs.Passes.{same-accesses}
use Rattle.tables.specs.Check.{tables_fault}
use Rattle.tables.specs.Passed.{Passed}
use Rattle.tables.proofs.Promises.{tables-pass, pass-tables}
use Rattle.visits.specs.Visits.{Tables}
use Rattle.eval.specs.Evaluation.{evaluation_fault, evaluate_of, buffer_after}
use Rattle.meaning.specs.Demand.{SameTriples, Shown, Reached}
use Rattle.meaning.proofs.Parts.{parts}
use Rattle.meaning.proofs.Given.{first_count, first-selects, first_fits, listed-checked, given-meaning}
use Rattle.meaning.proofs.Listed.{reached-listed}

-- tables are such exactly if they pass their check
tables-fine : (ts : Tables) → SameTriples ts → tables_fault ts.aevt ts.avet ts.eavt ≡ Ok tt
tables-fine ts s = pass-tables ts.aevt ts.avet ts.eavt s.aevt_sorted s.avet_sorted s.eavt_sorted s.in_avet s.in_eavt

pub fine-same : (ts : Tables) → tables_fault ts.aevt ts.avet ts.eavt ≡ Ok tt → SameTriples ts
fine-same ts e =
    let p = tables-pass ts.aevt ts.avet ts.eavt e in
    record { aevt_sorted = p.aevt_sorted; avet_sorted = p.avet_sorted; eavt_sorted = p.eavt_sorted; in_avet = p.in_avet; in_eavt = p.in_eavt }

-- 20 and 21 are among what the plan check asks
passed-flows : (p : Plan) → check_of p ≡ Ok tt → flows_fault p ≡ Ok tt
unfolding check_of flows_fault out_out_fault
passed-flows p e =
    let c = or-fine (counts_fault p.scan_count p.slot_count p.select_count) _ e in
    rw c.0 ((each-passes _ _ zero_scan 0 (scans_of p)).1 (λ j h. ((promises p (unfold check_of in e)).scans_fit j h).not_out_out_eavt))

module _ (q : Query) (clear : Clear q) where
  -- a clear query has a statement: something is selected, and what is selected is named
  some-statement : 0 < q.where_statements.count
  unfolding named
  some-statement =
      let n = q.variable_count in
      let m = q.where_statements.count in
      let f = query-fits q clear.fine in
      let b = parts q clear.fine in
      let long : length (selects_of q) ≡ q.select.count = length-take-le _ _ (omega (arith, f.few_selects, clear.selects_sized)) in
      let low = selects-below n (selects_of q) m b.selects_fine 0 zero_var (omega (arith, long, f.some_select)) in
      go m refl (all_named (statements_of q) n 0 b.used_fine 0 (omega (arith, low)))
    where
      go : (m : ℕ) → q.where_statements.count ≡ m → named (take m q.where_statements.items) (0 + 0) ≡ true → 0 < m
      go zero e h = absurd (false≢true h)
      go (suc m) e h = omega arith

  module _ (accepted : (plan_of q).verdict ≡ Ok tt) where
    abbrev first : Plan
    first = (plan_of q).plan

    pub first-flows : flows_fault first ≡ Ok tt
    first-flows = passed-flows first (plan-passes q clear.statements_sized clear.selects_sized accepted)

    pub first-initial : Initial (scans_of first)
    first-initial = plan-initial q clear.statements_sized clear.selects_sized accepted

    -- its plans have a scan, pass the check, and the tables do
    module _ (l : List Scan) (same : SameScans (scans_of first) l) (ts : Tables) (tables : SameTriples ts) where
      not-refused : evaluation_fault (with_scans first l) ts ≡ Ok tt
      unfolding evaluation_fault
      not-refused =
          let some : eqb first.scan_count 0 ≡ false = ne_eqb first.scan_count 0 (λ e. omega (arith, some-statement, first_count q clear accepted, e)) in
          rw (listed-checked q clear accepted l same, some, tables-fine ts tables) refl

      width : length (slots_selected first) ≡ length (selects_of q)
      width = ap length (first-selects q clear accepted) ∙ length-map (selects_of q) slot_of

      listed-shown : Shown ts q (with_scans first l)
      unfolding evaluate_of buffer_after
      listed-shown =
          let passed : Passed ts.aevt ts.avet ts.eavt = tables-pass ts.aevt ts.avet ts.eavt (tables-fine ts tables) in
          let m = given-meaning q clear accepted l same ts passed in
          record {
            meaning = m;
            answer = λ k buffer. rw (not-refused, width, m.rows_are) refl;
            buffer_then = λ k buffer. rw (not-refused, width, m.rows_are) refl;
          }

    pub reached-shown : {t : ℕ} {p : Plan} → Reached first t p → (ts : Tables) → SameTriples ts → Shown ts q p
    reached-shown {t} {p} r ts tables =
        let w = reached-listed first (first_fits q clear accepted) first-flows first-initial r in
        rw w.1 (listed-shown (get_or (combinations (scans_of first)) t []) (same-accesses (scans_of first) t w.0) ts tables)
