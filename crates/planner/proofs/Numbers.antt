-- Which numbers a verdict can have: of two, the first that is given; and what the walks of 10 to 16 give at most.
use Prim.Native.Nat.{ℕ, ◌+◌, ◌≤◌}
use mathlib.Core.Path.{◌≡◌, refl}
use mathlib.Core.Bool.{Bool, true, false, false≢true}
use mathlib.Core.List.{List, [], ◌∷◌, ◌++◌}
use native.Mathlib.Omega.{arith}
use lib.Dec.{ltb, eqb}
use Rattle.lists.specs.Span.{span}
use Rattle.capacity.specs.Capacity.{max_statements, max_slots, max_selects}
use Rattle.refusal.specs.Verdict.{Verdict}
use Rattle.std.specs.Prelude.{Ok, Err}
use Rattle.refusal.specs.Verdict.{number_in, rule_of, refuse_if, number_of, or_else, first_fault, refuse_first}
use Rattle.query.specs.declared.Statement.{Statement}
use Rattle.query.specs.declared.Query.{Query}
use Rattle.query.specs.Query.{statements_of, selects_of}
use Rattle.query_check.specs.Refusals.{constants, statements_fault, selects_fault, unused_fault, capacity_fault, variables_fault, query_fault}
use Rattle.planner.specs.Refusals.{binds_twice, bound_twice_fault, plan_fault}

module _ (k : ℕ) where
  pub if-within : (t : Bool) (n p : ℕ) → number_in (rule_of n) ≤ k → number_of (refuse_if t n p) ≤ k
  if-within true n p h = h
  if-within false n p h = omega arith

  pub or-within : (a b : Verdict) → number_of a ≤ k → number_of b ≤ k → number_of (or_else a b) ≤ k
  or-within (Ok tt) b h g = g
  or-within (Err r) b h g = h

  -- what comes after a refusal does not matter
  pub or-first : (a b : Verdict) → (a ≡ Ok tt → ⊥) → number_of a ≤ k → number_of (or_else a b) ≤ k
  or-first (Ok tt) b n h = absurd (n refl)
  or-first (Err r) b n h = h

  pub if-first : (t : Bool) (n p : ℕ) (b : Verdict) → t ≡ true → number_in (rule_of n) ≤ k → number_of (or_else (refuse_if t n p) b) ≤ k
  if-first true n p b e h = h
  if-first false n p b e h = absurd (false≢true e)

  -- a list that is refused at its first item that fails a test
  pub first_within : {A : Type 0} (test : A → Bool) (n : ℕ) → number_in (rule_of n) ≤ k → (p : ℕ) (xs : List A) → number_of (refuse_first test n p xs) ≤ k
  unfolding refuse_first first_fault
  first_within test n h p [] = omega arith
  first_within test n h p (x ∷ xs) = or-within (refuse_if (test x) n p) _ (if-within (test x) n p h) (first_within test n h (p + 1) xs)

  pub bound-within : 16 ≤ k → (before ss : List Statement) (i : ℕ) → number_of (bound_twice_fault before ss i) ≤ k
  unfolding bound_twice_fault
  bound-within h before [] i = omega arith
  bound-within h before (s ∷ ss) i = or-within (refuse_if (binds_twice before s) 16 i) _ (if-within (binds_twice before s) 16 i h) (bound-within h (before ++ (s ∷ [])) ss (i + 1))

  pub capacity-within : 13 ≤ k → (n m : ℕ) (ss : List Statement) (c : ℕ) → number_of (capacity_fault n m ss c) ≤ k
  unfolding capacity_fault
  capacity-within h n m ss c =
      or-within (refuse_if (ltb max_statements m) 10 0) _ (if-within (ltb max_statements m) 10 0 (let g : 10 ≤ k = omega (arith, h) in g))
      (or-within (refuse_if (ltb max_slots (n + constants ss)) 11 0) _ (if-within (ltb max_slots (n + constants ss)) 11 0 (let g : 11 ≤ k = omega (arith, h) in g))
      (or-within (refuse_if (ltb max_selects c) 12 0) _ (if-within (ltb max_selects c) 12 0 (let g : 12 ≤ k = omega (arith, h) in g)) (if-within (eqb c 0) 13 0 h)))

  pub query-within : 15 ≤ k → (q : Query) → number_of (query_fault q) ≤ k
  unfolding query_fault variables_fault statements_fault selects_fault unused_fault
  query-within h q =
      let n = q.variable_count in
      let m = q.where_statements.count in
      or-within (capacity_fault n m (statements_of q) q.select.count) _ (capacity-within (omega (arith, h)) n m (statements_of q) q.select.count)
      (or-within (statements_fault n (statements_of q) 0) _ (first_within _ 14 (let g : 14 ≤ k = omega (arith, h) in g) 0 (statements_of q))
      (or-within (selects_fault n (selects_of q) m) _ (first_within _ 14 (let g : 14 ≤ k = omega (arith, h) in g) m (selects_of q)) (first_within _ 15 h 0 (span 0 n))))

  pub plan-within : 16 ≤ k → (q : Query) → number_of (plan_fault q) ≤ k
  unfolding plan_fault
  plan-within h q = or-within (query_fault q) _ (query-within (omega (arith, h)) q) (bound-within h [] (statements_of q) 0)
