-- Past the first `?` the counts are within the capacities.
use mathlib.Core.Path.{sym, ◌∙◌}
use native.Mathlib.Omega.{arith}
use lib.ListN.{length-take}
use Rattle.query_check.proofs.Capacity.{capacity_fine}
use Rattle.query_check.proofs.check_query.Goals as goal

pub shared_ref_as_front-statements : goal.shared_ref_as_front-statements
shared_ref_as_front-statements c =
    omega (arith, capacity_fine _ _ _ _ (sym c.check_capacity.ensures ∙ c.in_ok-check_capacity.was))

pub shared_ref_as_front-select : goal.shared_ref_as_front-select
shared_ref_as_front-select c =
    omega (arith, capacity_fine _ _ _ _ (sym c.check_capacity.ensures ∙ c.in_ok-check_capacity.was))

pub check_variables-requires : goal.check_variables-requires
check_variables-requires c =
    let q = c.args.query in
    let f = capacity_fine _ _ _ _ (sym c.check_capacity.ensures ∙ c.in_ok-check_capacity.was) in (
      omega (arith, f.few_statements, length-take q.where_statements.count q.where_statements.items),
      omega (arith, f.few_selects, length-take q.select.count q.select.items),
      omega (arith, f.few_slots),
    )
