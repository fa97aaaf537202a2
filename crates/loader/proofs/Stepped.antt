-- A plan's words after a step: they say the plan that `next` hands back, and no word is another but the index words of the scans that count.
use mathlib.Core.Path.{◌≡◌, refl, ◌∙◌}
use Prim.Native.Nat.{ℕ, zero, suc, ◌<◌, ◌≤◌}
use mathlib.Core.List.{List, [], ◌∷◌}
use mathlib.Core.Bool.{Bool, true, false, cond}
use native.Mathlib.Omega.{arith}
use native.Mathlib.Nat.{not-suc-le-zero, le_of_suc-le-suc}
use lib.ListN.{length, get_or, length-take}
use lib.Seq.{length-take-le, get_or-take}
use Rattle.capacity.specs.Capacity.{max_scans}
use Rattle.lists.proofs.Tabled.{tabled-at, tabled-length}
use Rattle.refusal.specs.Verdict.{Verdict}
use Rattle.std.specs.Prelude.{Ok, Err}
use Rattle.refusal.proofs.Fine.{or-fine}
use Rattle.refusal.proofs.First.{each-passes}
use Rattle.plan.specs.declared.Scan.{Scan}
use Rattle.plan.specs.declared.Plan.{Plan}
use Rattle.plan.specs.Plan.{zero_scan, scans_of, counts_fault, out_out_fault, flows_fault}
use Rattle.plan.proofs.Counts.{counts-fine}
use Rattle.listing.specs.Next.{is_new_index, next_scans, with_scans, next_plan_of}
use Rattle.listing.proofs.NextLists.{next-length, with-scans}
use Rattle.loader_words.specs.Words.{word, plan_words, scan_at, plan_of_words}
use Rattle.loader_plan_words.specs.Write.{index_at, with_indexes}
use Rattle.loader_plan_words.proofs.Indexes.{indexes-other}
use Rattle.loader_plan_words.proofs.Stepped.{SameButIndex, indexes-say}
use Rattle.loader.specs.Answers.{stepped_after, stepped_of}

-- a stepped scan differs in the index at most
next-same : (l : List Scan) (i : ℕ) → i < length l → SameButIndex (get_or l i zero_scan) (get_or (next_scans l) i zero_scan)
unfolding next_scans
next-same [] i h = absurd (not-suc-le-zero h)
next-same (s ∷ l) zero h = record { flows = refl; entities = refl; attributes = refl; values = refl }
next-same (s ∷ l) (suc i) h = go (is_new_index s.flow s.index) (next-same l i (le_of_suc-le-suc h))
  where
    go : (t : Bool) → SameButIndex (get_or l i zero_scan) (get_or (next_scans l) i zero_scan) → SameButIndex (get_or l i zero_scan) (get_or (cond t l (next_scans l)) i zero_scan)
    go true b = record { flows = refl; entities = refl; attributes = refl; values = refl }
    go false b = b

module _ (ws : List ℕ) where
  abbrev p : Plan
  p = plan_of_words ws

  abbrev next : List Scan
  next = next_scans (scans_of p)

  fine-says : length ws ≡ plan_words → flows_fault p ≡ Ok tt → plan_of_words (with_indexes (scans_of (with_scans p next)) 0 ws) ≡ with_scans p next
  unfolding flows_fault out_out_fault
  fine-says long e =
      let k = p.scan_count in
      let faults = or-fine (counts_fault k p.slot_count p.select_count) _ e in
      let few : k ≤ max_scans = (counts-fine k _ _ faults.0).few_scans in
      let many : length p.scans ≡ max_scans = tabled-length (scan_at ws) max_scans in
      let front : length (scans_of p) ≡ k = length-take-le k p.scans (omega arith) in
      let as_many : length next ≡ k = next-length (scans_of p) ∙ front in
      let here : scans_of (with_scans p next) ≡ next = with-scans p next (next-length (scans_of p)) in
      let read : (i : ℕ) → i < k → get_or (scans_of p) i zero_scan ≡ scan_at ws i = λ i h. get_or-take k p.scans i zero_scan h ∙ tabled-at (scan_at ws) max_scans i zero_scan (omega arith) in
      rw here (indexes-say ws next long (omega arith) (λ i h. rw (read i (omega arith)) at ((each-passes _ _ zero_scan 0 (scans_of p)).0 faults.1 i (omega arith)))
      (λ i h. rw (read i (omega arith)) at (next-same (scans_of p) i (omega arith))) ∙ rw as_many refl)

  -- the words say the next plan, or where it is refused the one that they said
  pub step-says : length ws ≡ plan_words → plan_of_words (stepped_after (stepped_of ws) ws) ≡ (stepped_of ws).plan
  unfolding next_plan_of
  step-says long = go (flows_fault p) refl
    where
      go : (v : Verdict) → flows_fault p ≡ v → plan_of_words (stepped_after (next_plan_of p) ws) ≡ (next_plan_of p).plan
      go (Ok tt) e = rw e (fine-says long e)
      go (Err r) e = rw e refl

  -- a word that is no index word of a scan that counts stays
  pub step_stays : (j : ℕ) → ((i : ℕ) → i < p.scan_count → j ≡ index_at i → ⊥) → word (stepped_after (stepped_of ws) ws) j ≡ word ws j
  unfolding next_plan_of
  step_stays j other = go (flows_fault p) refl
    where
      go : (v : Verdict) → flows_fault p ≡ v → word (stepped_after (next_plan_of p) ws) j ≡ word ws j
      go (Ok tt) e =
          let all = length-take p.scan_count (with_scans p next).scans in
          rw e (indexes-other (scans_of (with_scans p next)) 0 ws j (λ n h q. other n (omega arith) (omega arith)))
      go (Err r) e = rw e refl
