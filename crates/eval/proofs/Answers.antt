-- The answers of evaluation: the first refusal of the chain, or the window of the rows.
use mathlib.Core.Path.{◌≡◌, refl, sym, ◌∙◌}
use mathlib.Core.Bool.{true, false≢true}
use mathlib.Core.List.{List}
use Prim.Native.Nat.{ℕ, ◌≤◌}
use native.Mathlib.Omega.{arith}
use borrow.Author.Tests.{eq-eqb, ne_eqb}
use lib.ListN.{length}
use lib.Seq.{length-take-le}
use lib.Dec.{eqb}
use Rattle.capacity.specs.Capacity.{max_scans, max_selects}
use Rattle.refusal.specs.Verdict.{Refusal, Verdict}
use Rattle.std.specs.Prelude.{Ok, Err}
use Rattle.refusal.specs.Verdict.{refused, or_else}
use Rattle.refusal.proofs.Fine.{refuse-fine, or-fine}
use Rattle.tables.specs.Rows.{rows_of, ascending}
use Rattle.tables.specs.Check.{tables_fault}
use Rattle.tables.proofs.Promises.{tables-pass}
use Rattle.plan.specs.declared.Plan.{Plan}
use Rattle.plan.specs.declared.Index.TheVariants.{Aevt, Avet, Eavt}
use Rattle.plan_check.specs.Check.{check_of}
use Rattle.plan_check.proofs.Promises.{promises, scans-there}
use Rattle.visits.specs.Visits.{Tables, tables_of}
use Rattle.eval.specs.Steps.{Ascend}
use Rattle.eval.specs.Evaluation.{Evaluable, evaluation_fault}

module _ (p : Plan) (ts : Tables) where
  -- the chain, link by link
  pub plan-refused : (r : Refusal) → check_of p ≡ Err r → evaluation_fault p ts ≡ Err r
  unfolding evaluation_fault
  plan-refused r e = rw e refl

  pub no-scans : check_of p ≡ Ok tt → p.scan_count ≡ 0 → evaluation_fault p ts ≡ refused 28 0
  unfolding evaluation_fault
  no-scans e z = simp (e, eq-eqb p.scan_count 0 z)

  pub tables-answer : check_of p ≡ Ok tt → (p.scan_count ≡ 0 → ⊥) → evaluation_fault p ts ≡ tables_fault ts.aevt ts.avet ts.eavt
  unfolding evaluation_fault
  tables-answer e z = simp (e, ne_eqb p.scan_count 0 z)

  -- so 28 is never given: after the plan check only the tables are asked
  pub no-28 : p.select_count ≤ length p.select → evaluation_fault p ts ≡ or_else (check_of p) (tables_fault ts.aevt ts.avet ts.eavt)
  no-28 fits = go (check_of p) refl
    where
      go : (v : Verdict) → check_of p ≡ v → evaluation_fault p ts ≡ or_else (check_of p) (tables_fault ts.aevt ts.avet ts.eavt)
      go (Ok tt) e = tables-answer e (λ z. omega (arith, scans-there p fits e)) ∙ sym (rw e refl)
      go (Err r) e = plan-refused r e ∙ sym (rw e refl)

-- what has passed the checks can be evaluated
evaluable : (p : Plan) (aevt avet eavt : List ℕ) → check_of p ≡ Ok tt → (p.scan_count ≡ 0 → ⊥) → tables_fault aevt avet eavt ≡ Ok tt
    → length p.scans ≡ max_scans → length p.select ≡ max_selects → Evaluable p (tables_of aevt avet eavt)
evaluable p aevt avet eavt e z f scans select =
    let q = promises p e in
    let passed = tables-pass aevt avet eavt f in
    record {
      promised = q;
      some_scan = rw (length-take-le p.scan_count p.scans (omega (arith, q.few_scans))) (omega arith);
      some_select = rw (length-take-le p.select_count p.select (omega (arith, q.few_selects))) q.some_select;
      sorted = by_index passed.aevt_sorted.ascends passed.avet_sorted.ascends passed.eavt_sorted.ascends;
    }
  where
    by_index : ascending (rows_of aevt) ≡ true → ascending (rows_of avet) ≡ true → ascending (rows_of eavt) ≡ true → Ascend (tables_of aevt avet eavt)
    by_index a b c Aevt = a
    by_index a b c Avet = b
    by_index a b c Eavt = c

pub fine-evaluable : (p : Plan) (aevt avet eavt : List ℕ) → evaluation_fault p (tables_of aevt avet eavt) ≡ Ok tt → length p.scans ≡ max_scans
    → length p.select ≡ max_selects → Evaluable p (tables_of aevt avet eavt)
unfolding evaluation_fault
fine-evaluable p aevt avet eavt e scans select =
    let a = or-fine (check_of p) _ e in
    let b = or-fine _ (tables_fault aevt avet eavt) a.1 in
    evaluable p aevt avet eavt a.0 (λ z. absurd (false≢true (sym (refuse-fine (eqb p.scan_count 0) 28 0 b.0) ∙ eq-eqb p.scan_count 0 z))) b.1 scans select
