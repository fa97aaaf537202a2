-- The first of least cost of what is weighed is the first plan of least cost, by the number of its order and then by its own.
use mathlib.Core.Path.{◌≡◌, refl, sym, ap, ◌∙◌}
use mathlib.Core.Logic.{◌⊎◌, inl, inr}
use mathlib.Core.Bool.{Bool, true, false, false≢true}
use mathlib.Core.List.{List, [], ◌∷◌}
use Prim.Native.Nat.{ℕ, ◌≤◌, ◌<◌}
use native.Mathlib.Omega.{arith}
use lib.ListN.{length, get_or}
use Rattle.capacity.specs.Capacity.{max_elements, max_searched}
use Rattle.refusal.specs.Verdict.{refused}
use Rattle.orders.proofs.Theorem.{listed-once}
use Rattle.query.specs.declared.Statement.{Statement}
use Rattle.query.specs.declared.Query.{Query}
use Rattle.query.specs.Query.{statements_of}
use Rattle.query_check.specs.Clear.{Clear}
use Rattle.plan.specs.declared.Scan.{Scan}
use Rattle.plan.specs.declared.Plan.{Plan}
use Rattle.planner.specs.Planning.{plan_of}
use Rattle.listing.specs.Next.{with_scans}
use Rattle.search.specs.Answered.{Found}
use Rattle.search.specs.Search.{Candidate, orders, arranged, arranged_query, is_sound, weighed, candidates_of, least_from, found_as, not_found, first_least, search_of}
use Rattle.search.specs.FirstLeast.{FirstLeast}
use Rattle.search.proofs.Answer.{search-first}
use Rattle.search.proofs.First.{least_first}
use Rattle.search.proofs.Weighed.{only-orders}
use Rattle.search.proofs.Least.{refuses-unsound, unsound-refused}
use Rattle.meaning.specs.Demand.{SoundOrder, PlanIn, weighed_in, order_at, FirstOfLeast, Searches}
use Rattle.meaning.proofs.Sound.{sound-without}
use Rattle.meaning.proofs.Places.{member-at, at-member, same-default, place, place_at, place_of, place-steps, place-orders, some-sound, candidates-long, candidate-at}
use Rattle.meaning.proofs.Weighs.{scans_at, plan-number, number-plan, found-plan, plan-weighed, weighed-plan}

module _ (q : Query) (clear : Clear q) (few : q.where_statements.count ≤ max_searched) where
  abbrev n : ℕ
  n = q.variable_count

  abbrev ss : List Statement
  ss = statements_of q

  abbrev all : List (List ℕ)
  all = orders q.where_statements.count

  fits : q.where_statements.count ≤ max_elements
  fits = omega (arith, few)

  -- plan number t of order number r stands at its place among those weighed
  weighed-at : {r t : ℕ} {p : Plan} → r < length all → PlanIn q (order_at q r) t p
      → (t < length (candidates_of n ss (order_at q r))) × (get_or (weighed_in q) (place n ss all r t) (weighed (order_at q r) []) ≡ weighed (order_at q r) (scans_at q clear (order_at q r) t))
  weighed-at {r} {t} h w =
      let o = order_at q r in
      let s = (sound-without (arranged ss o)).1 w.sound.none_twice in
      let l : t < length (candidates_of n ss o) = rw (candidates-long n ss o s) (plan-number q clear o w.sound w.reached).0 in
      (l, (place_at n ss all r t h l).1 (weighed o []) ∙ candidate-at n ss o s t)

  module _ (c : Candidate) (f : FirstLeast c (weighed_in q)) (a : search_of q ≡ found_as q c) where
    at_place : (r : ℕ) × (u : ℕ) × (r < length all) × (u < length (candidates_of n ss (get_or all r []))) × (f.place ≡ place n ss all r u)
    at_place = place_of n ss all f.place f.within

    abbrev number : ℕ
    number = at_place.0

    abbrev steps : ℕ
    steps = at_place.1

    abbrev order : List ℕ
    order = order_at q number

    abbrev scans : List Scan
    scans = scans_at q clear order steps

    sound : SoundOrder q order
    sound =
        let h = at_place.2 in
        record {
          order = only-orders q.where_statements.count fits order (at-member all number order h (λ d. same-default all number d [] h));
          none_twice = (sound-without (arranged ss order)).0 (some-sound n ss order steps at_place.3);
        }

    plan : PlanIn q order steps (with_scans (plan_of (arranged_query q order)).plan scans)
    plan =
        let s = (sound-without (arranged ss order)).1 sound.none_twice in
        number-plan q clear order sound steps (rw (candidates-long n ss order s) at at_place.3)

    is-candidate : c ≡ weighed order scans
    is-candidate =
        sym (f.stands (weighed order [])) ∙ ap (λ (k : ℕ). get_or (weighed_in q) k (weighed order [])) at_place.4 ∙ (weighed-at at_place.2 plan).1

    found-is : search_of q ≡ found_as q (weighed order scans)
    found-is = a ∙ ap (found_as q) is-candidate

    plan-found : (search_of q).plan ≡ with_scans (plan_of (arranged_query q order)).plan scans
    plan-found = ap (λ (x : Found). x.plan) found-is ∙ found-plan q clear order sound scans

    earlier : (r t : ℕ) → (r < number) ⊎ ((r ≡ number) × (t < steps)) → (r < length all) × (t < length (candidates_of n ss (order_at q r)) → place n ss all r t < f.place)
    earlier r t (inl l) = (omega (arith, at_place.2, l), λ g. rw at_place.4 (place-orders n ss all r number t steps l at_place.2 g))
    earlier r t (inr (e, l)) = (omega (arith, at_place.2, e), λ g. rw (at_place.4, e) (place-steps n ss all number t steps l))

    first-of-least : FirstOfLeast q (search_of q)
    first-of-least = record {
      number = number;
      steps = steps;
      within = at_place.2;
      fine = ap (λ (x : Found). x.verdict) found-is;
      order_is = ap (λ (x : Found). x.order) found-is;
      plan_is = rw plan-found plan;
      cost_is = rw (plan-found, (plan-weighed q clear few plan).cost_is, found-is) refl;
      least =
          λ o t p w.
          let v = plan-weighed q clear few w in
          let m = member-at (weighed_in q) (weighed o (scans_at q clear o t)) v.weighed in
          rw (a, v.cost_is) (rw (m.2 c) at (f.least m.0 c m.1));
      first =
          λ r t p b w.
          let e = earlier r t b in
          let v = weighed-at e.0 w in
          let less = f.first (place n ss all r t) (weighed (order_at q r) []) (e.1 v.0) in
          rw (a, (plan-weighed q clear few w).cost_is) (rw v.1 at less);
    }

  either-answer : (l : List Candidate) → weighed_in q ≡ l → search_of q ≡ first_least q l → FirstOfLeast q (search_of q) ⊎ (search_of q ≡ not_found (refused 18 0))
  either-answer [] e a = inr a
  either-answer (c ∷ cs) e a = inl (first-of-least (least_from c cs) (rw e (least_first c cs)) a)

  -- 18
  refused_none : search_of q ≡ not_found (refused 18 0) → (o : List ℕ) → SoundOrder q o → ⊥
  refused_none e o s =
      false≢true
      (sym (refuses-unsound q clear.fine few (ap (λ (x : Found). x.verdict) e) o s.order) ∙ (sound-without (arranged ss o)).1 s.none_twice)

  none-refused : ((o : List ℕ) → SoundOrder q o → ⊥) → search_of q ≡ not_found (refused 18 0)
  none-refused h =
      unsound-refused q clear.fine few
      (λ o p. go (is_sound (arranged ss o)) refl (λ e. h o (record { order = p; none_twice = (sound-without (arranged ss o)).0 e })))
    where
      go : (t : Bool) {u : Bool} → u ≡ t → (u ≡ true → ⊥) → u ≡ false
      go true e n = absurd (n e)
      go false e n = e

  pub searches : Searches q
  searches = record {
    orders_once = listed-once q.where_statements.count fits;
    every = λ o t p w. (weighed o (scans_at q clear o t), plan-weighed q clear few w);
    only = weighed-plan q clear few;
    answer = either-answer (weighed_in q) refl (search-first q clear.fine few);
    no_order = (refused_none, none-refused);
  }
