-- Evaluation stands above planning and sees only what planning promises: every plan listed for a query that is accepted passes the check
-- (crate planned), and so of a query with a statement evaluation refuses none of its plans, but for what is wrong with the tables.
use mathlib.Core.Path.{◌≡◌, ap}
use mathlib.Core.List.{[]}
use Prim.Native.Nat.{ℕ, ◌<◌}
use lib.ListN.{length, get_or}
use Rattle.capacity.specs.Capacity.{max_statements, max_selects}
use Rattle.std.specs.Prelude.{Ok}
use Rattle.query.specs.declared.Query.{Query}
use Rattle.plan.specs.declared.Plan.{Plan}
use Rattle.plan.specs.Plan.{scans_of}
use Rattle.planner.specs.Planning.{plan_for, plan_of}
use Rattle.listing.specs.Next.{with_scans}
use Rattle.listing.specs.Listing.{combinations}
use Rattle.planned.proofs.Passes.{plan-there, listed-all-pass}
use Rattle.tables.specs.Check.{tables_fault}
use Rattle.visits.specs.Visits.{Tables}
use Rattle.eval.specs.Evaluation.{evaluation_fault}
use Rattle.eval.proofs.Answers.{tables-answer}

module _ (q : Query) (statements_sized : length q.where_statements.items ≡ max_statements) (selects_sized : length q.select.items ≡ max_selects)
    (accepted : (plan_of q).verdict ≡ Ok tt) where
  planned-count : (plan_of q).plan.scan_count ≡ q.where_statements.count
  unfolding plan_for
  planned-count = ap (λ (p : Plan). p.scan_count) (plan-there q statements_sized selects_sized accepted)

  pub planned-evaluated : (q.where_statements.count ≡ 0 → ⊥) → (t : ℕ) → t < length (combinations (scans_of (plan_of q).plan)) → (ts : Tables)
      → evaluation_fault (with_scans (plan_of q).plan (get_or (combinations (scans_of (plan_of q).plan)) t [])) ts ≡ tables_fault ts.aevt ts.avet ts.eavt
  planned-evaluated some t h ts = tables-answer _ ts (listed-all-pass q statements_sized selects_sized accepted t h) (λ e. some (rw planned-count at e))
