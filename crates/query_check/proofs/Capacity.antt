-- What it says that the capacities are fine.
use mathlib.Core.Path.{◌≡◌}
use Prim.Native.Nat.{ℕ, ◌+◌, ◌≤◌, ◌<◌}
use mathlib.Core.Bool.{false}
use mathlib.Core.List.{List}
use native.Mathlib.Omega.{arith}
use borrow.Author.Tests.{ltb-false, eqb-false}
use lib.Dec.{ltb, eqb}
use Rattle.capacity.specs.Capacity.{max_statements, max_slots, max_selects}
use Rattle.std.specs.Prelude.{Ok}
use Rattle.refusal.specs.Verdict.{refuse_if}
use Rattle.refusal.proofs.Fine.{refuse-fine, or-fine}
use Rattle.query.specs.declared.Statement.{Statement}
use Rattle.query_check.specs.Refusals.{constants, capacity_fault}

-- the counts are within the capacities, and something is selected
pub record Fits (variables statements : ℕ) (ss : List Statement) (selects : ℕ) : Type 0 where
  pub few_statements : statements ≤ max_statements
  pub few_slots : variables + constants ss ≤ max_slots
  pub few_selects : selects ≤ max_selects
  pub some_select : 0 < selects

pub capacity_fine : (variables statements : ℕ) (ss : List Statement) (selects : ℕ) → capacity_fault variables statements ss selects ≡ Ok tt
    → Fits variables statements ss selects
unfolding capacity_fault
capacity_fine variables statements ss selects e =
    let a = or-fine (refuse_if (ltb max_statements statements) 10 0) _ e in
    let b = or-fine (refuse_if (ltb max_slots (variables + constants ss)) 11 0) _ a.1 in
    let d = or-fine (refuse_if (ltb max_selects selects) 12 0) _ b.1 in
    let some : eqb selects 0 ≡ false = refuse-fine _ _ _ d.1 in
    record {
      few_statements = ltb-false _ _ (refuse-fine _ _ _ a.0);
      few_slots = ltb-false _ _ (refuse-fine _ _ _ b.0);
      few_selects = ltb-false _ _ (refuse-fine _ _ _ d.0);
      some_select = omega (arith, eqb-false);
    }
