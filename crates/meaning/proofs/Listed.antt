-- The plans that `next` reaches by a yes are those listed, in turn.
use mathlib.Core.Path.{◌≡◌, sym, ap, subst, ◌∙◌}
use mathlib.Core.Logic.{⊎_elim}
use Prim.Native.Nat.{ℕ, zero, suc, ◌≤◌, ◌<◌}
use native.Mathlib.Nat.{eq-or-lt_of_le}
use native.Mathlib.Omega.{arith}
use mathlib.Core.List.{List}
use mathlib.Core.Bool.{false≢true}
use lib.ListN.{length}
use Rattle.std.specs.Prelude.{Ok}
use Rattle.plan.specs.declared.Scan.{Scan}
use Rattle.plan.specs.declared.Plan.{Plan}
use Rattle.plan.specs.Plan.{scans_of, flows_fault}
use Rattle.listing.specs.Answered.{NextPlan}
use Rattle.listing.specs.Next.{next_plan_of}
use Rattle.listing.specs.Listing.{combinations, Initial}
use Rattle.listing.proofs.Listed.{wheels}
use Rattle.listing.proofs.NextLists.{plan_at, plan-first, next-steps, next-ends}
use Rattle.meaning.specs.Demand.{Reached, initial_plan, by_yes}

module _ (p : Plan) (fits : p.scan_count ≤ length p.scans) (fine : flows_fault p ≡ Ok tt) (begun : Initial (scans_of p)) where
  abbrev all : List (List Scan)
  all = combinations (scans_of p)

  some : 0 < length all
  some = rw (wheels (scans_of p) begun).begins (omega arith)

  -- number t is reached by t of them
  pub listed-reached : (t : ℕ) → t < length all → Reached p t (plan_at p t)
  listed-reached zero h = subst (Reached p 0) (sym (plan-first p fits fine begun)) initial_plan
  listed-reached (suc t) h =
      let s = next-steps p fits fine begun t h in
      subst (Reached p (suc t)) (ap (λ (n : NextPlan). n.plan) s) (by_yes (listed-reached t (omega arith)) (ap (λ (n : NextPlan). n.is_new) s))

  -- and nothing else is: from the last of them `next` says no
  pub reached-listed : {t : ℕ} {r : Plan} → Reached p t r → (t < length all) × (r ≡ plan_at p t)
  reached-listed initial_plan = (some, sym (plan-first p fits fine begun))
  reached-listed (by_yes {t} {r} y e) =
      let w = reached-listed y in
      ⊎_elim (λ (last : suc t ≡ length all). absurd (false≢true (sym (ap (λ (n : NextPlan). n.is_new) (next-ends p fits fine begun t last)) ∙ rw w.1 at e)))
      (λ (more : suc t < length all).
      (more, ap (λ (x : Plan). (next_plan_of x).plan) w.1 ∙ ap (λ (n : NextPlan). n.plan) (next-steps p fits fine begun t more)))
      (eq-or-lt_of_le w.0)
