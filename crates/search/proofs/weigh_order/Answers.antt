-- Planned afresh; an order that is not sound has no candidates.
use mathlib.Core.Path.{sym, ◌∙◌}
use Rattle.search.proofs.Fresh.{order-passed, order-asks, order-weighs}
use Rattle.search.proofs.weigh_order.Goals as goal

pub weigh_plans-requires-clause-orders : goal.weigh_plans-requires-clause-orders
weigh_plans-requires-clause-orders c =
    (order-asks c.args.query.now c.requires.searchable c.args.order.now c.requires.orders c.in-Ok.plan (sym c.plan_in.ensures ∙ c.in-Ok.is)).0

pub weigh_plans-requires-clause-plans : goal.weigh_plans-requires-clause-plans
weigh_plans-requires-clause-plans c =
    (order-asks c.args.query.now c.requires.searchable c.args.order.now c.requires.orders c.in-Ok.plan (sym c.plan_in.ensures ∙ c.in-Ok.is)).1

pub returns-in-Ok : goal.returns-in-Ok
returns-in-Ok c =
    order-weighs c.args.query.now c.requires.searchable c.args.order.now c.requires.orders c.in-Ok.plan (sym c.plan_in.ensures ∙ c.in-Ok.is) _ _ c.weigh_plans.ensures

pub returns-in_default : goal.returns-in_default
returns-in_default c =
    order-passed c.args.query.now c.requires.searchable c.args.order.now c.requires.orders _ (sym c.plan_in.ensures ∙ c.in_default.is) _
