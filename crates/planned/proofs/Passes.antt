-- The plan of an accepted query passes the plan check, since it is as `Promised` says, and so do the plans listed from it on.
use mathlib.Core.Path.{◌≡◌, refl, sym, ◌∙◌}
use Prim.Native.Nat.{ℕ, ◌≤◌, ◌<◌}
use mathlib.Core.List.{[]}
use native.Mathlib.Omega.{arith}
use lib.ListN.{length, get_or}
use lib.Seq.{length-take-le}
use Rattle.capacity.specs.Capacity.{max_statements, max_selects}
use Rattle.refusal.specs.Verdict.{Verdict}
use Rattle.std.specs.Prelude.{Ok, Err}
use Rattle.refusal.specs.Verdict.{unless}
use Rattle.refusal.proofs.Fine.{or-fine}
use Rattle.lists.proofs.Padded.{padded-length}
use Rattle.query.specs.declared.Query.{Query}
use Rattle.query.specs.Query.{statements_of}
use Rattle.query_check.specs.Refusals.{query_fault}
use Rattle.plan.specs.declared.Plan.{Plan}
use Rattle.plan.specs.Plan.{empty_plan, scans_of}
use Rattle.plan_check.specs.Check.{check_of}
use Rattle.plan_check.proofs.Promises.{promised-passes}
use Rattle.listing.specs.Next.{with_scans}
use Rattle.listing.specs.Listing.{combinations, Initial}
use Rattle.listing.proofs.Passes.{listed-passes}
use Rattle.planner.specs.Answered.{Planned}
use Rattle.planner.specs.Refusals.{bound_twice_fault, plan_fault}
use Rattle.planner.specs.Planning.{scans_for, plan_for, plan_of}
use Rattle.planner.proofs.Accepted.{query-fits}
use Rattle.planned.proofs.Initial.{scans-initial}
use Rattle.planned.proofs.Promised.{planned-scans, plan-promised}

-- the verdict is that of 10 to 16
pub either-verdict : (v : Verdict) (p : Plan) → (unless {A = Planned} v (λ w. record { verdict = w; plan = empty_plan }) (record { verdict = Ok tt; plan = p })).verdict ≡ v
either-verdict (Ok tt) p = refl
either-verdict (Err r) p = refl

pub plan-verdict : (q : Query) → (plan_of q).verdict ≡ plan_fault q
unfolding plan_of
plan-verdict q = either-verdict (plan_fault q) _

module _ (q : Query) (statements_sized : length q.where_statements.items ≡ max_statements) (selects_sized : length q.select.items ≡ max_selects)
    (accepted : (plan_of q).verdict ≡ Ok tt) where
  none-refused : plan_fault q ≡ Ok tt
  none-refused = sym (plan-verdict q) ∙ accepted

  -- so the query is as it must be, no variable is bound twice, and the plan is there
  pub query-fine : query_fault q ≡ Ok tt
  unfolding plan_fault
  query-fine = (or-fine (query_fault q) (bound_twice_fault [] (statements_of q) 0) none-refused).0

  pub bound-fine : bound_twice_fault [] (statements_of q) 0 ≡ Ok tt
  unfolding plan_fault
  bound-fine = (or-fine (query_fault q) (bound_twice_fault [] (statements_of q) 0) none-refused).1

  pub plan-there : (plan_of q).plan ≡ plan_for q (statements_of q)
  unfolding plan_of
  plan-there = simp none-refused

  -- it passes the check
  pub plan-passes : check_of (plan_of q).plan ≡ Ok tt
  plan-passes = rw plan-there (promised-passes _ (plan-promised q statements_sized selects_sized query-fine bound-fine))

  -- below its count it has the scans of the statements
  pub plan-scans : scans_of (plan_of q).plan ≡ scans_for [] (statements_of q) q.variable_count
  plan-scans =
      let f = query-fits q query-fine in
      rw plan-there (planned-scans q (statements_of q) (length-take-le _ _ (omega arith)) f.few_statements)

  -- each stands at the beginning of its cycle
  pub plan-initial : Initial (scans_of (plan_of q).plan)
  plan-initial = rw plan-scans (scans-initial [] (statements_of q) q.variable_count)

  -- its array has its scans
  pub plan-fits : (plan_of q).plan.scan_count ≤ length (plan_of q).plan.scans
  unfolding plan_for
  plan-fits = rw (plan-there, padded-length) (query-fits q query-fine).few_statements

  -- so every plan listed passes the check
  pub listed-all-pass : (t : ℕ) → t < length (combinations (scans_of (plan_of q).plan))
      → check_of (with_scans (plan_of q).plan (get_or (combinations (scans_of (plan_of q).plan)) t [])) ≡ Ok tt
  listed-all-pass = listed-passes (plan_of q).plan plan-fits plan-passes
