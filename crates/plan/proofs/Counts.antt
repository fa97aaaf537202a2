-- What it says that the counts and the flows of a plan are fine, and that a plan's fault is that of its counts, else that of its scans.
use mathlib.Core.Path.{◌≡◌, refl}
use Prim.Native.Nat.{ℕ, ◌≤◌}
use mathlib.Core.List.{List}
use mathlib.Core.Bool.{◌||◌}
use borrow.Author.Tests.{ltb-false, le-ltb}
use lib.Dec.{ltb}
use Rattle.capacity.specs.Capacity.{max_scans, max_slots, max_selects}
use Rattle.lists.proofs.Tests.{neither}
use Rattle.refusal.specs.Verdict.{Verdict}
use Rattle.std.specs.Prelude.{Ok, Err}
use Rattle.refusal.specs.Verdict.{or_else}
use Rattle.refusal.proofs.Fine.{refuse-fine, or-fine}
use Rattle.plan.specs.declared.Scan.{Scan}
use Rattle.plan.specs.declared.Plan.{Plan}
use Rattle.plan.specs.Plan.{scans_of, counts_fault, Counted, out_out_fault, scan_flows_fault, flows_fault}

pub counts-fine : (scans slots selects : ℕ) → counts_fault scans slots selects ≡ Ok tt → Counted scans slots selects
unfolding counts_fault
counts-fine scans slots selects e =
    let a = neither (ltb max_slots slots || ltb max_scans scans) (ltb max_selects selects) (refuse-fine _ _ _ e) in
    let b = neither (ltb max_slots slots) (ltb max_scans scans) a.0 in
    record { few_scans = ltb-false _ _ b.1; few_slots = ltb-false _ _ b.0; few_selects = ltb-false _ _ a.1 }

-- of scans without a plan the count is within the array
pub scan-flows-fine : (scans : List Scan) (k : ℕ) → scan_flows_fault scans k ≡ Ok tt → k ≤ max_scans
unfolding scan_flows_fault
scan-flows-fine scans k e = ltb-false _ _ (refuse-fine _ _ _ (or-fine _ _ e).0)

pub flows-agree : (p : Plan) →
    flows_fault p ≡ or_else (counts_fault p.scan_count p.slot_count p.select_count) (scan_flows_fault p.scans p.scan_count)
unfolding flows_fault scan_flows_fault
flows-agree p = go (counts_fault p.scan_count p.slot_count p.select_count) refl
  where
    go : (v : Verdict) → counts_fault p.scan_count p.slot_count p.select_count ≡ v
        → or_else v (out_out_fault (scans_of p) 0) ≡ or_else v (scan_flows_fault p.scans p.scan_count)
    go (Ok tt) e = simp (le-ltb _ _ (counts-fine _ _ _ e).few_scans)
    go (Err r) e = refl

pub ruleset flows = flows-agree
