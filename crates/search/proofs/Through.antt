-- Through the plans of one order: the best so far and what is still to be weighed give the best of them all.
use mathlib.Core.Path.{◌≡◌, refl, sym, ap, ◌∙◌}
use Prim.Native.Nat.{ℕ, ◌≤◌, ◌<◌}
use native.Mathlib.Omega.{arith}
use mathlib.Core.List.{List, [], ◌∷◌, ◌++◌, map, Memᴰ}
use mathlib.Core.Bool.{Bool, true, false, false≢true}
use borrow.Author.Tests.{le-ltb}
use lib.ListN.{length, take, drop}
use lib.Seq.{length-take-le, take_at}
use Rattle.capacity.specs.Capacity.{max_scans}
use Rattle.lists.specs.Padded.{padded}
use Rattle.lists.proofs.Padded.{padded-length, padded-other}
use Rattle.std.specs.Prelude.{Ok, Option}
use Rattle.plan.specs.declared.Scan.{Scan}
use Rattle.plan.specs.Plan.{zero_scan, scan_flows_fault}
use Rattle.cost.specs.Cost.{weight, cost_of_scans}
use Rattle.refusal.specs.Verdict.{answer}
use Rattle.listing.specs.Answered.{NextScans}
use Rattle.planner.proofs.Answered.{answer-fine}
use Rattle.listing.specs.Next.{next_scans, is_new_scans, stepped, next_of_scans}
use Rattle.listing.specs.Listing.{combinations}
use Rattle.listing.proofs.Circle.{Run}
use Rattle.listing.proofs.Listed.{wheels}
use Rattle.listing.proofs.Passes.{same-listed}
use Rattle.listing.proofs.NextLists.{same-flows, next-length}
use Rattle.search.specs.declared.Best.{Best}
use Rattle.search.specs.Search.{Candidate, weighed}
use Rattle.search.specs.Best.{kept, better, best_from, Orders, Plans}
use Rattle.search.proofs.Bounded.{cost-fits, cost-fine}
use Rattle.search.proofs.Left.{steps_left, run-left}

-- the plans from these scans on
abbrev pub plans_left : ℕ → List Scan → List Scan → ℕ
plans_left count scans₀ scans = steps_left next_scans is_new_scans (length (combinations (take count scans₀))) (take count scans)

pub record Through (order : List ℕ) (count : ℕ) (best₀ : Option Best) (scans₀ : List Scan) (best : Option Best) (scans : List Scan) : Type 0 where
  pub rest : List (List Scan)
  pub run : Run next_scans is_new_scans (take count scans₀) (take count scans) rest
  pub fewer : length rest ≤ length (combinations (take count scans₀))
  pub listed : (m : List Scan) → Memᴰ m (take count scans ∷ rest) → Memᴰ m (combinations (take count scans₀))
  pub zeros : padded zero_scan max_scans (take count scans) ≡ scans
  pub whole :
      best_from best (map (weighed (take count order)) (take count scans ∷ rest)) ≡ best_from best₀ (map (weighed (take count order)) (combinations (take count scans₀)))

pub through-start : (order : List ℕ) (count : ℕ) (best : Option Best) (scans : List Scan) → Plans count scans → Through order count best scans best scans
through-start order count best scans p =
    let l = take count scans in
    let c = wheels l p.initial in
    record {
      rest = drop 1 (combinations l);
      run = c.runs;
      fewer = let e = ap length c.begins in omega (arith, e);
      listed = λ m h. rw c.begins h;
      zeros = p.zeros;
      whole = ap (λ (x : List (List Scan)). best_from best (map (weighed (take count order)) x)) (sym c.begins);
    }

module _ (order : List ℕ) (count : ℕ) (best₀ : Option Best) (scans₀ : List Scan) (best : Option Best) (scans : List Scan) (o : Orders count order)
    (t : Through order count best₀ scans₀ best scans) where
  abbrev l : List Scan
  l = take count scans

  abbrev weighs : List (List Scan) → List Candidate
  weighs = map (weighed (take count order))

  long : length l ≡ count
  long =
      let h = ap length t.zeros in
      length-take-le count scans (omega (arith, h, padded-length zero_scan max_scans (take count scans), o.few))

  -- the scans are of a plan that is listed, so none is refused
  flows : scan_flows_fault scans count ≡ Ok tt
  unfolding scan_flows_fault
  flows =
      let few : count ≤ max_scans = omega (arith, o.few) in
      simp (le-ltb _ _ few, same-flows (same-listed _ l (t.listed l (Memᴰ.head refl))) 0)

  pub through-steps : next_of_scans scans count ≡ stepped scans count
  unfolding next_of_scans
  through-steps = simp flows

  -- so what a step answers is the scans stepped
  pub through-stepped : (is_new : Bool) (scans' : List Scan) → answer (next_of_scans scans count).verdict (next_of_scans scans count).is_new ≡ Ok is_new
      → scans' ≡ (next_of_scans scans count).scans → (is_new_scans l ≡ is_new) × (scans' ≡ next_scans l ++ drop count scans)
  through-stepped is_new scans' e f =
      let g = (answer-fine _ _ is_new e).1 in
      (sym (ap (λ (x : NextScans). x.is_new) through-steps) ∙ g, f ∙ ap (λ (x : NextScans). x.scans) through-steps)

  -- nor is its cost
  pub through-costs : (cost_of_scans scans count).verdict ≡ Ok tt
  through-costs = cost-fine scans count flows (omega (arith, long, o.few))

  -- what is weighed is the candidate
  module _ (cost : ℕ) (costs : cost ≡ (cost_of_scans scans count).cost) (after : Option Best)
      (takes : after ≡ better best (record { order = order; scans = scans; cost = cost })) where
    candidate : after ≡ better best (kept (weighed (take count order) l))
    candidate =
        let e : cost ≡ weight [] l = costs ∙ cost-fits scans count flows (omega (arith, long, o.few)) in
        takes ∙ rw (e, o.zeros, t.zeros)

    -- after the last
    pub through-end : is_new_scans l ≡ false → after ≡ best_from best₀ (weighs (combinations (take count scans₀)))
    through-end n = candidate ∙ go t.rest t.run t.whole
      where
        go : (rest : List (List Scan)) → Run next_scans is_new_scans (take count scans₀) l rest
            → best_from best (weighs (l ∷ rest)) ≡ best_from best₀ (weighs (combinations (take count scans₀)))
            → better best (kept (weighed (take count order) l)) ≡ best_from best₀ (weighs (combinations (take count scans₀)))
        go [] r e = unfold best_from in e
        go (y ∷ ys) r e = absurd (false≢true (sym n ∙ r.0))

    -- and before: another follows
    module _ (n : is_new_scans l ≡ true) (scans' : List Scan) (e : scans' ≡ next_scans l ++ drop count scans) where
      advanced : take count scans' ≡ next_scans l
      advanced = ap (take count) e ∙ take_at (next_scans l) (drop count scans) count (next-length l ∙ long)

      behind : padded zero_scan max_scans (take count scans') ≡ scans'
      behind =
          let h : length l ≤ max_scans = omega (arith, long, o.few) in
          let f = padded-other zero_scan max_scans l (next_scans l) (next-length l) h in
          ap (padded zero_scan max_scans) advanced ∙ sym (rw (t.zeros, long) at f) ∙ sym e

      pub through-again : Through order count best₀ scans₀ after scans'
      through-again = go t.rest t.run t.fewer t.listed t.whole
        where
          go : (rest : List (List Scan)) → Run next_scans is_new_scans (take count scans₀) l rest → length rest ≤ length (combinations (take count scans₀))
              → ((m : List Scan) → Memᴰ m (l ∷ rest) → Memᴰ m (combinations (take count scans₀)))
              → best_from best (weighs (l ∷ rest)) ≡ best_from best₀ (weighs (combinations (take count scans₀))) → Through order count best₀ scans₀ after scans'
          go [] r f i w = absurd (false≢true (sym r.0 ∙ n))
          go (y ∷ ys) r f i w =
              let a : take count scans' ≡ y = advanced ∙ r.1 in
              record {
                rest = ys;
                run = rw a r.2;
                fewer = omega (arith, f);
                listed = λ m h. i m (Memᴰ.tail (rw a at h));
                zeros = behind;
                whole = rw (a, candidate) (unfold best_from in w);
              }

      pub through-less : plans_left count scans₀ scans' < plans_left count scans₀ scans
      through-less = go t.rest t.run t.fewer
        where
          k : ℕ
          k = length (combinations (take count scans₀))

          go : (rest : List (List Scan)) → Run next_scans is_new_scans (take count scans₀) l rest → length rest ≤ k
              → steps_left next_scans is_new_scans k (take count scans') < steps_left next_scans is_new_scans k l
          go [] r f = absurd (false≢true (sym r.0 ∙ n))
          go (y ∷ ys) r f =
              let g : length ys ≤ k = omega (arith, f) in
              let a : take count scans' ≡ y = advanced ∙ r.1 in
              let u = run-left next_scans is_new_scans (take count scans₀) l (y ∷ ys) k r f in
              let v = run-left next_scans is_new_scans (take count scans₀) y ys k r.2 g in
              rw a (omega (arith, u, v))
