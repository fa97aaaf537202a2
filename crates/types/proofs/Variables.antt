-- What planning's own checks leave of a query's variables: the statements name each of them, and none past them.
use mathlib.Core.Path.{◌≡◌, refl}
use Prim.Native.Nat.{ℕ, suc, ◌+◌, ◌≤◌, ◌<◌}
use mathlib.Core.List.{List, [], ◌∷◌}
use mathlib.Core.Bool.{true, false, not}
use native.Mathlib.Omega.{arith}
use native.Mathlib.Nat.{zero-add}
use borrow.Author.Tests.{ne_eqb, not-false}
use lib.ListN.{length, get_or}
use Rattle.std.specs.Prelude.{Ok}
use Rattle.refusal.proofs.Fine.{or-fine}
use Rattle.refusal.proofs.First.{each_number}
use Rattle.query.specs.declared.QueryValue.{QueryValue}
use Rattle.query.specs.declared.QueryValue.TheVariants.{Const, Var as Variable}
use Rattle.query.specs.declared.Statement.{Statement}
use Rattle.query.specs.declared.Query.{Query}
use Rattle.query.specs.Query.{is_variable, named, statements_of, selects_of, zero_statement}
use Rattle.query_check.specs.Refusals as check
use Rattle.query_check.specs.Below.{ValueBelow, Below}
use Rattle.query_check.proofs.Variables.{statements-below}
use Rattle.planner.specs.Refusals.{plan_fault}
use Rattle.planner.specs.Record.{Plannable}
use Rattle.planner.proofs.Accepted.{query-plannable}
use Rattle.types.specs.Types.{type_given}
use Rattle.types.proofs.Given.{given-unnamed}

value-past : (n v : ℕ) → n ≤ v → (q : QueryValue) → ValueBelow n q → is_variable q v ≡ false
value-past n v l (Const c) b = refl
value-past n v l (Variable x) b = ne_eqb x.0 v (λ q. omega arith)

-- statements whose variables are below n name none from n on
unnamed-past : (n : ℕ) (ss : List Statement) → ((i : ℕ) → i < length ss → Below n (get_or ss i zero_statement)) → (v : ℕ) → n ≤ v → named ss v ≡ false
unfolding named
unnamed-past n [] low v l = refl
unnamed-past n (s ∷ ss) low v l =
    let b = low 0 (omega arith) in
    let e = ne_eqb s.entity.0 v (λ q. omega (arith, b.entity_below)) in
    simp (e, value-past n v l s.value b.value_below) (unnamed-past n ss (λ i h. low (suc i) (omega arith)) v l)

module _ (q : Query) (fine : plan_fault q ≡ Ok tt) where
  -- what planning's own checks leave
  pub plannable : Plannable q.variable_count q.where_statements.count q.where_statements.items
  unfolding plan_fault
  plannable = query-plannable q (or-fine (check.query_fault q) _ fine).0

  -- past the variables no type is given
  pub given-past : (table : List ℕ) (v : ℕ) → q.variable_count ≤ v → type_given table (statements_of q) v ≡ 0
  given-past table v l =
      given-unnamed table (statements_of q) v
      (unnamed-past q.variable_count (statements_of q)
      (λ i h. statements-below q.variable_count (statements_of q) 0 plannable.low i zero_statement h) v l)

  -- below the variables all are named
  pub variables-named : (v : ℕ) → v < q.variable_count → named (statements_of q) v ≡ true
  unfolding plan_fault check.query_fault check.variables_fault check.unused_fault
  variables-named v h =
      let n = q.variable_count in
      let m = q.where_statements.count in
      let ss = statements_of q in
      let f = (or-fine (check.query_fault q) _ fine).0 in
      let g = (or-fine (check.capacity_fault n m ss q.select.count) _ f).1 in
      let k = (or-fine (check.selects_fault n (selects_of q) m) _ (or-fine (check.statements_fault n ss 0) _ g).1).1 in
      rw (zero-add v) at (not-false (named ss (0 + v)) ((each_number (λ (u : ℕ). not (named ss u)) 15 0 0 n).0 k v h))
