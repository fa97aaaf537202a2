-- What it says that nothing of 10 to 15 is refused, part by part.
use mathlib.Core.Path.{◌≡◌}
use Rattle.std.specs.Prelude.{Ok}
use Rattle.refusal.proofs.Fine.{or-fine}
use Rattle.query.specs.declared.Query.{Query}
use Rattle.query.specs.Query.{statements_of, selects_of}
use Rattle.query_check.specs.Refusals.{statements_fault, selects_fault, unused_fault, capacity_fault, variables_fault, query_fault}

pub record Parts (q : Query) : Type 0 where
  pub capacity_fine : capacity_fault q.variable_count q.where_statements.count (statements_of q) q.select.count ≡ Ok tt
  pub statements_fine : statements_fault q.variable_count (statements_of q) 0 ≡ Ok tt
  pub selects_fine : selects_fault q.variable_count (selects_of q) q.where_statements.count ≡ Ok tt
  pub used_fine : unused_fault (statements_of q) q.variable_count 0 ≡ Ok tt

pub parts : (q : Query) → query_fault q ≡ Ok tt → Parts q
unfolding query_fault variables_fault
parts q e =
    let n = q.variable_count in
    let m = q.where_statements.count in
    let c = or-fine (capacity_fault n m (statements_of q) q.select.count) _ e in
    let a = or-fine (statements_fault n (statements_of q) 0) _ c.1 in
    let b = or-fine (selects_fault n (selects_of q) m) _ a.1 in
    record { capacity_fine = c.0; statements_fine = a.0; selects_fine = b.0; used_fine = b.1 }
