-- `next` goes through the plans listed and back to the initial one: what `Listed` says of scans, of the plans that have them.
use mathlib.Core.Path.{◌≡◌, refl, ap, ◌∙◌}
use Prim.Native.Nat.{ℕ, suc, ◌≤◌, ◌<◌}
use mathlib.Core.List.{List, [], ◌∷◌, append-nil}
use mathlib.Core.Bool.{Bool, true, false, cond}
use native.Mathlib.Omega.{arith}
use borrow.Author.Tests.{ltb-true, ltb-false}
use lib.ListN.{length, get_or, drop, take-append-drop, drop_of_length-le}
use lib.Seq.{drop_at, take_at, take_all, length-take-le}
use lib.Dec.{ltb}
use Rattle.std.specs.Prelude.{Ok}
use Rattle.refusal.proofs.Fine.{or-fine}
use Rattle.refusal.proofs.First.{each-passes}
use Rattle.plan.specs.declared.Scan.{Scan}
use Rattle.plan.specs.declared.Plan.{Plan}
use Rattle.plan.specs.Plan.{zero_scan, scans_of, counts_fault, out_out_fault, flows_fault}
use Rattle.listing.specs.Next.{is_new_index, next_scans, is_new_scans, with_scans, next_plan_of}
use Rattle.listing.specs.Listing.{combinations, Initial}
use Rattle.listing.proofs.Listed.{listed}
use Rattle.listing.proofs.SameAccesses.{SameScans, same_at}
use Rattle.listing.proofs.Passes.{same-accesses, same_count, same-scans}

-- stepped scans are as many as before, and a plan that is given as many others has these
pub next-length : (l : List Scan) → length (next_scans l) ≡ length l
unfolding next_scans
next-length [] = refl
next-length (s ∷ l) = ap suc (go (is_new_index s.flow s.index) (next-length l))
  where
    go : (t : Bool) → length (next_scans l) ≡ length l → length (cond t l (next_scans l)) ≡ length l
    go true e = refl
    go false e = e

pub with-scans : (p : Plan) (l : List Scan) → length l ≡ length (scans_of p) → scans_of (with_scans p l) ≡ l
with-scans p l e = go (ltb (length p.scans) p.scan_count) refl
  where
    go : (t : Bool) → ltb (length p.scans) p.scan_count ≡ t → scans_of (with_scans p l) ≡ l
    go true h =
        let m : length p.scans < p.scan_count = ltb-true _ _ h in
        let n : length p.scans ≤ p.scan_count = omega arith in
        let all = take_all p.scan_count p.scans n in
        rw (drop_of_length-le p.scans n, append-nil l) (take_all p.scan_count l (omega (arith, e, ap length all)))
    go false h =
        let n = p.scan_count in
        take_at l (drop n p.scans) n (e ∙ length-take-le n p.scans (ltb-false _ _ h))

-- plan t of those listed
abbrev pub plan_at : Plan → ℕ → Plan
plan_at p t = with_scans p (get_or (combinations (scans_of p)) t [])

-- none of them is out-out over eavt
pub same-flows : {ss ts : List Scan} → SameScans ss ts → (i : ℕ) → out_out_fault ts i ≡ Ok tt
unfolding out_out_fault
same-flows {ts = ts} b i = (each-passes _ _ zero_scan i ts).1 (λ j h. (same_at b zero_scan j h).not_out_out_eavt)

module _ (p : Plan) (fits : p.scan_count ≤ length p.scans) (fine : flows_fault p ≡ Ok tt) where
  -- the plan with other scans of the same cycles
  next-same : (l : List Scan) → SameScans (scans_of p) l
      → next_plan_of (with_scans p l) ≡ record { verdict = Ok tt; is_new = is_new_scans l; plan = with_scans p (next_scans l) }
  unfolding next_plan_of flows_fault
  next-same l b =
      let n = p.scan_count in
      simp ((or-fine (counts_fault n p.slot_count p.select_count) _ fine).0, same-scans p l fits b, same-flows b 0)
      (simp (drop_at l (drop n p.scans) n (same_count p l fits b)))

  initial-again : with_scans p (scans_of p) ≡ p
  initial-again = rw take-append-drop

  module _ (initial : Initial (scans_of p)) where
    -- the first is the plan itself; from each but the last, yes and the one after it; from the last, no and the plan itself
    pub plan-first : plan_at p 0 ≡ p
    plan-first = rw (listed _ initial).first initial-again

    pub next-steps : (t : ℕ) → suc t < length (combinations (scans_of p))
        → next_plan_of (plan_at p t) ≡ record { verdict = Ok tt; is_new = true; plan = plan_at p (suc t) }
    next-steps t h =
        let s = (listed _ initial).steps t h in
        let here : t < length (combinations (scans_of p)) = omega arith in
        next-same _ (same-accesses _ t here) ∙ rw (s.0, s.1)

    pub next-ends : (t : ℕ) → suc t ≡ length (combinations (scans_of p)) → next_plan_of (plan_at p t) ≡ record { verdict = Ok tt; is_new = false; plan = p }
    next-ends t e =
        let s = (listed _ initial).ends t e in
        let here : t < length (combinations (scans_of p)) = omega arith in
        next-same _ (same-accesses _ t here) ∙ rw (s.0, s.1, initial-again)
