-- The search weighs every plan of every sound order and nothing else, and a plan's weight is its cost: plan number t of an order has the scans
-- that stand at place t of those that the search goes through.
use mathlib.Core.Path.{◌≡◌, refl, sym, ap, subst, ◌∙◌}
use Prim.Native.Nat.{ℕ, ◌≤◌, ◌<◌}
use native.Mathlib.Omega.{arith}
use mathlib.Core.List.{List, [], Memᴰ}
use lib.ListN.{length, get_or}
use Rattle.capacity.specs.Capacity.{max_searched}
use Rattle.std.specs.Prelude.{Ok}
use Rattle.refusal.proofs.Fine.{or-fine}
use Rattle.query.specs.declared.Statement.{Statement}
use Rattle.query.specs.declared.Query.{Query}
use Rattle.query.specs.Query.{statements_of}
use Rattle.query_check.specs.Clear.{Clear}
use Rattle.plan.specs.declared.Scan.{Scan}
use Rattle.plan.specs.declared.Plan.{Plan}
use Rattle.plan.specs.Plan.{scans_of, counts_fault, flows_fault}
use Rattle.plan_check.specs.Check.{check_of}
use Rattle.cost.specs.Cost.{cost_of}
use Rattle.planner.specs.Planning.{scans_for, plan_of}
use Rattle.planned.proofs.Passes.{plan-scans}
use Rattle.listing.specs.Next.{with_scans}
use Rattle.listing.specs.Listing.{combinations}
use Rattle.listing.proofs.SameAccesses.{SameScans}
use Rattle.listing.proofs.Passes.{same-accesses, same_count}
use Rattle.listing.proofs.NextLists.{same-flows}
use Rattle.search.specs.Search.{Candidate, arranged, arranged_query, weighed, found_as}
use Rattle.search.proofs.Bounded.{fault-fine}
use Rattle.search.proofs.Fresh.{fresh-plan}
use Rattle.search.proofs.Least.{weighs-every, weighs-only}
use Rattle.meaning.specs.Demand.{SoundOrder, Reached, PlanIn, weighed_in, Weighs}
use Rattle.meaning.proofs.Sound.{sound-without}
use Rattle.meaning.proofs.Places.{member-at, at-member, same-default}
use Rattle.meaning.proofs.Listed.{listed-reached, reached-listed}
use Rattle.meaning.proofs.Given.{first_count, first_fits, listed-scans, listed-checked}
use Rattle.meaning.proofs.Shown.{first-flows, first-initial}
use Rattle.meaning.proofs.Ordered.{ordered-statements, ordered-clear, ordered-accepted}

module _ (q : Query) (clear : Clear q) where
  abbrev n : ℕ
  n = q.variable_count

  abbrev ss : List Statement
  ss = statements_of q

  -- the scans that the search goes through in an order, and number t of them
  abbrev pub scans_in : List ℕ → List (List Scan)
  scans_in o = combinations (scans_for [] (arranged ss o) n)

  abbrev pub scans_at : List ℕ → ℕ → List Scan
  scans_at o t = get_or (scans_in o) t []

  module _ (o : List ℕ) (sound : SoundOrder q o) where
    abbrev turned : Query
    turned = arranged_query q o

    abbrev first : Plan
    first = (plan_of turned).plan

    turned_clear : Clear turned
    turned_clear = ordered-clear q clear o sound

    accepted : (plan_of turned).verdict ≡ Ok tt
    accepted = ordered-accepted q clear o sound

    first-scans : scans_of first ≡ scans_for [] (arranged ss o) n
    first-scans =
        plan-scans turned turned_clear.statements_sized turned_clear.selects_sized accepted ∙
        ap (λ (l : List Statement). scans_for [] l n) (ordered-statements q clear o sound)

    -- plan number t has these scans
    pub plan-number : {t : ℕ} {p : Plan} → Reached first t p → (t < length (scans_in o)) × (p ≡ with_scans first (scans_at o t))
    plan-number r =
        rw first-scans at (reached-listed first (first_fits turned turned_clear accepted) (first-flows turned turned_clear accepted) (first-initial turned turned_clear accepted) r)

    pub number-plan : (t : ℕ) → t < length (scans_in o) → PlanIn q o t (with_scans first (scans_at o t))
    number-plan t h = record {
      sound = sound;
      reached =
          rw first-scans at
          (listed-reached first (first_fits turned turned_clear accepted) (first-flows turned turned_clear accepted) (first-initial turned turned_clear accepted) t (rw first-scans h));
    }

    pub found-plan : (l : List Scan) → (found_as q (weighed o l)).plan ≡ with_scans first l
    found-plan l =
        ap (λ (p : Plan). with_scans p l)
        (sym (fresh-plan q clear.statements_sized clear.fine o sound.order clear.selects_sized accepted))

    module _ (few : q.where_statements.count ≤ max_searched) (t : ℕ) (h : t < length (scans_in o)) where
      abbrev l : List Scan
      l = scans_at o t

      same : SameScans (scans_of first) l
      same = rw first-scans (same-accesses (scans_for [] (arranged ss o) n) t h)

      short : length l ≤ max_searched
      short = omega (arith, few, same_count first l (first_fits turned turned_clear accepted) same, first_count turned turned_clear accepted)

      plan-costs : cost_of (with_scans first l) ≡ record { verdict = Ok tt; cost = (weighed o l).cost }
      unfolding cost_of flows_fault check_of
      plan-costs =
          let counts = (or-fine (counts_fault first.scan_count first.slot_count first.select_count) _ (listed-checked turned turned_clear accepted l same)).0 in
          rw (counts, listed-scans turned turned_clear accepted l same, same-flows same 0, fault-fine [] l 0 short) refl

  module _ (few : q.where_statements.count ≤ max_searched) where
    pub plan-weighed : {o : List ℕ} {t : ℕ} {p : Plan} → PlanIn q o t p → Weighs q o p (weighed o (scans_at o t))
    plan-weighed {o} {t} {p} w =
        let m = plan-number o w.sound w.reached in
        let l = scans_at o t in
        record {
          weighed =
              weighs-every q clear.fine few o w.sound.order ((sound-without (arranged ss o)).1 w.sound.none_twice) l
              (at-member (scans_in o) t l m.0 (λ d. same-default (scans_in o) t d [] m.0));
          order_is = refl;
          plan_is = found-plan o w.sound l ∙ sym m.1;
          cost_is = rw m.1 (plan-costs o w.sound few t m.0);
        }

    pub weighed-plan : (c : Candidate) → Memᴰ c (weighed_in q) → (o : List ℕ) × (t : ℕ) × (p : Plan) × PlanIn q o t p × Weighs q o p c
    weighed-plan c m =
        let w = weighs-only q clear.fine few c m in
        let o = w.0 in
        let sound : SoundOrder q o = record { order = w.2; none_twice = (sound-without (arranged ss o)).0 w.3 } in
        let a = member-at (scans_in o) w.1 w.4 in
        let e : c ≡ weighed o (scans_at o a.0) = w.5 ∙ ap (weighed o) (sym (a.2 [])) in
        let p = with_scans (first o sound) (scans_at o a.0) in
        let there = number-plan o sound a.0 a.1 in
        (o, a.0, p, there, subst (Weighs q o p) (sym e) (plan-weighed there))
