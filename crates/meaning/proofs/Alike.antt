-- 01, "How a query becomes a plan": two plans are equal if their counts and what lies below these agree. Equal plans get equal answers:
-- nothing past the counts is looked at. (The text and names: plan_text, `text-alike`.)
use mathlib.Core.Path.{◌≡◌, refl, sym, ap, ◌∙◌}
use Prim.Native.Nat.{ℕ}
use mathlib.Core.Bool.{Bool, false}
use mathlib.Core.List.{List}
use lib.ListN.{length}
use Rattle.refusal.specs.Verdict.{Verdict}
use Rattle.std.specs.Prelude.{Ok, Err}
use Rattle.refusal.specs.Verdict.{unless}
use Rattle.plan.specs.declared.Plan.{Plan}
use Rattle.plan.specs.Plan.{SamePlan, scans_of, flows_fault}
use Rattle.plan_check.specs.Check.{check_of}
use Rattle.cost.specs.Cost.{cost_of}
use Rattle.listing.specs.Answered.{NextPlan}
use Rattle.listing.specs.Next.{next_scans, is_new_scans, with_scans, next_plan_of}
use Rattle.listing.proofs.NextLists.{next-length, with-scans}
use Rattle.visits.specs.Visits.{Tables, row_list}
use Rattle.eval.specs.Evaluation.{evaluation_fault, evaluate_of, buffer_after}

module _ (p q : Plan) (e : SamePlan p q) where
  flows-alike : flows_fault p ≡ flows_fault q
  unfolding flows_fault
  flows-alike = rw (e.scans, e.scan_counts, e.slot_counts, e.select_counts)

  pub check-alike : check_of p ≡ check_of q
  unfolding check_of
  check-alike = rw (e.scans, e.slots, e.selects, e.scan_counts, e.slot_counts, e.select_counts)

  pub cost-alike : cost_of p ≡ cost_of q
  unfolding cost_of
  cost-alike = rw (flows-alike, e.scans)

  -- the two with the scans of the one stepped
  stepped-alike : let l = next_scans (scans_of q) in SamePlan (with_scans p l) (with_scans q l)
  stepped-alike =
      let l = next_scans (scans_of q) in
      let long = next-length (scans_of q) in
      record {
        scan_counts = e.scan_counts;
        slot_counts = e.slot_counts;
        select_counts = e.select_counts;
        scans = with-scans p l (long ∙ sym (ap length e.scans)) ∙ sym (with-scans q l long);
        slots = e.slots;
        selects = e.selects;
      }

  pub next-alike : ((next_plan_of p).verdict ≡ (next_plan_of q).verdict) × ((next_plan_of p).is_new ≡ (next_plan_of q).is_new) × SamePlan (next_plan_of p).plan (next_plan_of q).plan
  unfolding next_plan_of
  next-alike = rw (flows-alike, e.scans) (go (flows_fault q) (is_new_scans (scans_of q)) p q _ _ e stepped-alike)
    where
      stepped : Verdict → Bool → Plan → Plan → NextPlan
      stepped v n a b = unless v (λ r. record { verdict = r; is_new = false; plan = a }) (record { verdict = Ok tt; is_new = n; plan = b })

      go : (v : Verdict) (n : Bool) (a b c d : Plan) → SamePlan a b → SamePlan c d
          → ((stepped v n a c).verdict ≡ (stepped v n b d).verdict) × ((stepped v n a c).is_new ≡ (stepped v n b d).is_new) × SamePlan (stepped v n a c).plan (stepped v n b d).plan
      go (Ok tt) n a b c d given after = (refl, refl, after)
      go (Err r) n a b c d given after = (refl, refl, given)

  pub rows_alike : (ts : Tables) → row_list p ts ≡ row_list q ts
  unfolding row_list
  rows_alike ts = rw (e.scans, e.slots, e.selects)

  fault-alike : (ts : Tables) → evaluation_fault p ts ≡ evaluation_fault q ts
  unfolding evaluation_fault
  fault-alike ts = rw (check-alike, e.scan_counts)

  pub evaluation-alike : (ts : Tables) (k : ℕ) (buffer : List ℕ)
      → (evaluate_of p ts k (length buffer) ≡ evaluate_of q ts k (length buffer)) × (buffer_after p ts k buffer ≡ buffer_after q ts k buffer)
  unfolding evaluate_of buffer_after
  evaluation-alike ts k buffer = rw (fault-alike ts, rows_alike ts, e.selects) (refl, refl)
