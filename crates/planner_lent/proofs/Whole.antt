-- A query by value that counts no more than its arrays hold: its statements and selects are as many as it counts, and lent they are planned as it is.
use mathlib.Core.Path.{◌≡◌, refl, sym, subst}
use Prim.Native.Nat.{◌≤◌}
use native.Mathlib.Omega.{arith}
use lib.ListN.{length}
use lib.Seq.{length-take-le}
use Rattle.capacity.specs.Capacity.{max_statements, max_selects}
use Rattle.query.specs.declared.Query.{Query}
use Rattle.query.specs.Query.{statements_of, selects_of}
use Rattle.planner.specs.Planning.{plan_of}
use Rattle.planner_lent.specs.Lent.{plan_lent}
use Rattle.planner_lent.proofs.Agree.{lent-agrees}

module _ (q : Query) (room : length q.where_statements.items ≡ max_statements) (room' : length q.select.items ≡ max_selects) where
  pub statements-counted : q.where_statements.count ≤ max_statements → q.where_statements.count ≡ length (statements_of q)
  statements-counted few =
      sym (length-take-le _ _ (omega (arith, room, few)))

  pub selects-counted : q.select.count ≤ max_selects → q.select.count ≡ length (selects_of q)
  selects-counted few =
      sym (length-take-le _ _ (omega (arith, room', few)))

  pub planned-whole : q.where_statements.count ≤ max_statements → q.select.count ≤ max_selects → plan_lent q.variable_count (statements_of q) (selects_of q) ≡ plan_of q
  planned-whole few few' =
      let n = statements-counted few in
      let m = selects-counted few' in
      sym (lent-agrees _ _ _ (subst (λ i. i ≤ max_statements) n few) (subst (λ i. i ≤ max_selects) m few') q refl n refl m refl)
