-- What planning has where nothing is refused, and what `initialize_scans` then answers.
use mathlib.Core.Path.{◌≡◌, refl, sym, ◌∙◌}
use Prim.Native.Nat.{ℕ, ◌+◌, ◌≤◌}
use native.Mathlib.Omega.{arith}
use lib.ListN.{length, take}
use lib.Seq.{take-length, length-take-le}
use mathlib.Core.List.{List, []}
use Rattle.capacity.specs.Capacity.{max_scans}
use Rattle.refusal.specs.Verdict.{Refusal, Verdict}
use Rattle.std.specs.Prelude.{Ok, Err}
use Rattle.refusal.specs.Verdict.{unless, answer}
use Rattle.refusal.proofs.Fine.{or-fine}
use Rattle.lists.specs.Padded.{padded}
use Rattle.query.specs.declared.Statement.{Statement}
use Rattle.query.specs.declared.Query.{Query}
use Rattle.query.specs.Query.{statements_of}
use Rattle.query_check.specs.Refusals.{constants, statements_fault, capacity_fault, variables_fault, query_fault}
use Rattle.query_check.proofs.Capacity.{Fits, capacity_fine}
use Rattle.plan.specs.declared.Plan.{Plan}
use Rattle.plan.specs.Plan.{zero_scan, empty_plan}
use Rattle.planner.specs.Answered.{Planned}
use Rattle.planner.specs.Refusals.{bound_twice_fault, plan_fault}
use Rattle.planner.specs.Planning.{scans_for, not_initialized, initialized_of, plan_of}
use Rattle.planner.specs.Record.{Plannable}
use Rattle.planner.proofs.Answered.{answer-refused, answer-fine}

module _ (q : Query) (e : query_fault q ≡ Ok tt) where
  -- the capacities are kept
  pub query-fits : Fits q.variable_count q.where_statements.count (statements_of q) q.select.count
  unfolding query_fault
  query-fits = capacity_fine _ _ _ _ (or-fine _ _ e).0

  -- the statements can be planned
  pub query-plannable : Plannable q.variable_count q.where_statements.count q.where_statements.items
  unfolding query_fault variables_fault
  query-plannable =
      let v = (or-fine (capacity_fault q.variable_count q.where_statements.count (statements_of q) q.select.count) _ e).1 in
      record { few_statements = query-fits.few_statements; few_slots = query-fits.few_slots; low = (or-fine (statements_fault q.variable_count (statements_of q) 0) _ v).0 }

-- and so can these alone
pub plannable-lent : (n k : ℕ) (items : List Statement) → k ≤ length items → Plannable n k items → Plannable n (length (take k items)) (take k items)
plannable-lent n k items h p =
    let l : length (take k items) ≡ k = length-take-le k items h in
    record {
      few_statements = omega (arith, l, p.few_statements);
      few_slots = rw take-length p.few_slots;
      low = rw take-length p.low;
    }

-- planning refuses what is its fault
pub planned-verdict : (q : Query) → (plan_of q).verdict ≡ plan_fault q
unfolding plan_of
planned-verdict q = go (plan_fault q) _
  where
    go : (v : Verdict) (p : Plan) → (unless {A = Planned} v (λ w. record { verdict = w; plan = empty_plan }) (record { verdict = Ok tt; plan = p })).verdict ≡ v
    go (Ok tt) p = refl
    go (Err r) p = refl

-- so what planning answers says whether the query can be planned
pub plannable_refused : (q : Query) (r : Refusal) → answer (plan_of q).verdict (plan_of q).plan ≡ Err r → plan_fault q ≡ Err r
plannable_refused q r e = sym (planned-verdict q) ∙ answer-refused _ _ r e

pub plannable_fine : (q : Query) (p : Plan) → answer (plan_of q).verdict (plan_of q).plan ≡ Ok p → plan_fault q ≡ Ok tt
plannable_fine q p e = sym (planned-verdict q) ∙ (answer-fine _ _ p e).0

-- the verdict of the scans is 16's
pub initialized-verdict : (n : ℕ) (ss : List Statement) → (initialized_of n ss).verdict ≡ bound_twice_fault [] ss 0
unfolding initialized_of
initialized-verdict n ss = go (bound_twice_fault [] ss 0)
  where
    go : (v : Verdict) → (unless v not_initialized (record { verdict = Ok tt; scans = padded zero_scan max_scans (scans_for [] ss n); slot_count = n + constants ss })).verdict ≡ v
    go (Ok tt) = refl
    go (Err r) = refl

-- and where it is fine the scans are there
pub initialized-fine : (n : ℕ) (ss : List Statement) → bound_twice_fault [] ss 0 ≡ Ok tt
    → initialized_of n ss ≡ record { verdict = Ok tt; scans = padded zero_scan max_scans (scans_for [] ss n); slot_count = n + constants ss }
unfolding initialized_of
initialized-fine n ss e = rw e
