-- Where the premises of demand 3 are met: by every plan that `plan` and `next` give of a query that is not refused, by value or lent, by the one
-- that the search finds, and by tables that evaluation does not refuse.
use mathlib.Core.Path.{◌≡◌, refl, sym, ap, subst, ◌∙◌}
use mathlib.Core.Logic.{⊎_elim}
use Prim.Native.Nat.{ℕ}
use native.Mathlib.Omega.{arith}
use mathlib.Core.Bool.{false}
use mathlib.Core.List.{List}
use lib.ListN.{length}
use lib.Seq.{length-take-le}
use lib.Dec.{eqb}
use Rattle.capacity.specs.Capacity.{max_statements, max_selects}
use Rattle.refusal.specs.Verdict.{Verdict}
use Rattle.std.specs.Prelude.{Ok, Err}
use Rattle.refusal.specs.Verdict.{refuse_if, unless}
use Rattle.refusal.proofs.Fine.{or-fine}
use Rattle.lists.proofs.Padded.{padded-length}
use Rattle.orders.specs.Lists.{up_to}
use Rattle.orders.proofs.Lists.{order-refl}
use Rattle.query.specs.declared.Var.{Var}
use Rattle.query.specs.declared.Statement.{Statement}
use Rattle.query.specs.declared.Query.{Query}
use Rattle.query.specs.Query.{statements_of, zero_var, zero_statement}
use Rattle.query_check.specs.Clear.{Clear}
use Rattle.plan.specs.declared.Plan.{Plan}
use Rattle.plan_check.specs.Check.{check_of}
use Rattle.planner.specs.Planning.{plan_for, plan_of}
use Rattle.planner.proofs.Accepted.{query-fits}
use Rattle.planned.proofs.Passes.{query-fine, bound-fine, plan-there}
use Rattle.planner_lent.specs.Lent.{read_statements, read_selects, query_of, plan_lent}
use Rattle.search.specs.Search.{arranged, arranged_query, search_of}
use Rattle.search.proofs.Arranged.{arranged-all}
use Rattle.search.proofs.Fresh.{fresh-plan}
use Rattle.visits.specs.Visits.{Tables}
use Rattle.eval.specs.Answered.{Evaluated}
use Rattle.eval.specs.Evaluation.{evaluation_fault, evaluate_of}
use Rattle.meaning.specs.Demand.{SameTriples, Shown, SoundOrder, Reached, initial_plan, PlanIn, order_at, FirstOfLeast}
use Rattle.meaning.proofs.Shown.{fine-same}
use Rattle.meaning.proofs.Sound.{bound-sound}
use Rattle.meaning.proofs.Ordered.{ordered-accepted}
use Rattle.meaning.proofs.Demand.{rows-demanded}
use Rattle.meaning.proofs.Searched.{search-clear, search-explained}

module _ (q : Query) (statements_sized : length q.where_statements.items ≡ max_statements) (selects_sized : length q.select.items ≡ max_selects) where
  module _ (accepted : (plan_of q).verdict ≡ Ok tt) where
    abbrev as_given : List ℕ
    as_given = up_to q.where_statements.count

    planned-clear : Clear q
    planned-clear = record { statements_sized = statements_sized; selects_sized = selects_sized; fine = query-fine q statements_sized selects_sized accepted }

    given-statements : arranged (statements_of q) as_given ≡ statements_of q
    given-statements =
        let long : length (statements_of q) ≡ q.where_statements.count =
        length-take-le _ _ (omega (arith, (query-fits q planned-clear.fine).few_statements, statements_sized)) in
        rw long at (arranged-all (statements_of q))

    given-sound : SoundOrder q as_given
    given-sound = record {
      order = order-refl as_given;
      none_twice = rw given-statements (bound-sound (statements_of q) (bound-fine q statements_sized selects_sized accepted));
    }

    same-plan : (plan_of (arranged_query q as_given)).plan ≡ (plan_of q).plan
    same-plan =
        fresh-plan q statements_sized planned-clear.fine as_given given-sound.order selects_sized (ordered-accepted q planned-clear as_given given-sound) ∙
        ap (plan_for q) given-statements ∙
        sym (plan-there q statements_sized selects_sized accepted)

    -- where planning gives a plan, the order of the statements as given is sound, and what `next` reaches from that plan is a plan of it
    pub given-plan : {t : ℕ} {p : Plan} → Reached (plan_of q).plan t p → PlanIn q as_given t p
    given-plan {t} {p} r = record { sound = given-sound; reached = subst (λ (x : Plan). Reached x t p) (sym same-plan) r }

    pub plan-shown : {t : ℕ} {p : Plan} → Reached (plan_of q).plan t p → (ts : Tables) → SameTriples ts → Shown ts q p
    plan-shown {t} {p} r = rows-demanded q planned-clear as_given t p (given-plan r)

  -- and what the search finds is a plan of a sound order
  pub found-shown : (search_of q).verdict ≡ Ok tt → (ts : Tables) → SameTriples ts → Shown ts q (search_of q).plan
  found-shown e = ⊎_elim found (λ w. absurd ((search-explained q statements_sized selects_sized).refuses w.0 e)) (search-explained q statements_sized selects_sized).answer
    where
      found : FirstOfLeast q (search_of q) → (ts : Tables) → SameTriples ts → Shown ts q (search_of q).plan
      found f = rows-demanded q (search-clear q statements_sized selects_sized e).0 (order_at q f.number) f.steps (search_of q).plan f.plan_is

-- planning over lent slices: the query that holds what is lent has arrays as long as they must be
pub lent-shown : (n : ℕ) (ss : List Statement) (vs : List Var) → (plan_lent n ss vs).verdict ≡ Ok tt → {t : ℕ} {p : Plan} → Reached (plan_lent n ss vs).plan t p
    → (ts : Tables) → SameTriples ts → Shown ts (query_of n (read_statements ss) (read_selects vs)) p
lent-shown n ss vs = plan-shown (query_of n (read_statements ss) (read_selects vs)) (padded-length zero_statement max_statements ss) (padded-length zero_var max_selects vs)

-- an answer that is fine was not refused
fine-fault : (v : Verdict) (r : Evaluated) → (unless {A = Evaluated} v (λ w. record { verdict = w; count = 0; more = false }) r).verdict ≡ Ok tt → v ≡ Ok tt
fine-fault (Ok tt) r e = refl
fine-fault (Err x) r e = e

-- a call that is not refused was given three ascending tables of the same triples
fine-tables : (p : Plan) (ts : Tables) (k room : ℕ) → (evaluate_of p ts k room).verdict ≡ Ok tt → SameTriples ts
unfolding evaluate_of evaluation_fault
fine-tables p ts k room h =
    let e = fine-fault (evaluation_fault p ts) _ h in
    fine-same ts (or-fine (refuse_if (eqb p.scan_count 0) 28 0) _ (or-fine (check_of p) _ e).1).1

-- so where neither planning nor evaluation refuses, what is shown means the query
pub fine-shown : (q : Query) → length q.where_statements.items ≡ max_statements → length q.select.items ≡ max_selects → (ts : Tables) (k room : ℕ)
    → (plan_of q).verdict ≡ Ok tt → (evaluate_of (plan_of q).plan ts k room).verdict ≡ Ok tt → Shown ts q (plan_of q).plan
fine-shown q statements_sized selects_sized ts k room accepted h =
    plan-shown q statements_sized selects_sized accepted initial_plan ts (fine-tables (plan_of q).plan ts k room h)
