-- None of the steps is refused, and a turn is one of proofs/Round.antt's.
use mathlib.Core.Path.{◌≡◌, refl, sym, ap, subst, ◌∙◌}
use native.Mathlib.Omega.{arith}
use borrow.Author.Rules.{rules}
use lib.ListN.{length}
use Rattle.capacity.specs.Capacity.{max_searched}
use Rattle.permutation.specs.Swaps.{next_swap_of}
use Rattle.permutation.specs.declared.Swap.{Swap}
use Rattle.planner.proofs.Answered.{answer-fine}
use Rattle.orders.specs.Lists.{swapped}
use Rattle.search.proofs.Round.{Round, swapped-library, fresh_start, fresh_fine, no-swap, a-swap, round-start, swap-fine, round-end, swap-within, round-again, round-less}
use Rattle.search.proofs.weigh_orders.Goals as goal

pub unwrap-swaps-requires : goal.unwrap-swaps-requires
unwrap-swaps-requires c = rw (c.new.ensures, fresh_fine _ c.requires.few) refl

pub loop-swap-init : goal.loop-swap-init
loop-swap-init c =
    let s = (answer-fine _ _ _ (sym c.new.ensures ∙ c.unwrap-swaps.ensures)).1 in
    rw (c.first_order-order.ensures, sym s ∙ fresh_start _ c.requires.few) (round-start c.args.query.now c.requires)

pub unwrap-requires : goal.unwrap-requires
unwrap-requires c =
    let f = swap-fine _ _ _ _ c.loop-swap.invariant _ c.weigh_order.ensures in
    rw (c.next.ensures.value, f) refl

pub returns-in_default : goal.returns-in_default
returns-in_default c =
    let n = no-swap _ _ ((answer-fine _ _ _ (sym c.next.ensures.value ∙ c.unwrap.ensures)).1 ∙ c.in_default.is) in
    round-end _ _ _ _ c.loop-swap.invariant _ c.weigh_order.ensures n

pub swap-requires-clause-a_in_bounds : goal.swap-requires-clause-a_in_bounds
swap-requires-clause-a_in_bounds c =
    let h : length c.loop-swap.order ≡ max_searched = search rules in
    let a = a-swap _ _ _ ((answer-fine _ _ _ (sym c.next.ensures.value ∙ c.unwrap.ensures)).1 ∙ c.in-Some.is) in
    let w = swap-within _ _ _ _ c.loop-swap.invariant _ c.weigh_order.ensures a.0 in
    omega (arith, w.0, ap (λ (s : Swap). s.0) a.1, c.loop-swap.invariant.ordered.few)

pub swap-requires-clause-b_in_bounds : goal.swap-requires-clause-b_in_bounds
swap-requires-clause-b_in_bounds c =
    let h : length c.loop-swap.order ≡ max_searched = search rules in
    let a = a-swap _ _ _ ((answer-fine _ _ _ (sym c.next.ensures.value ∙ c.unwrap.ensures)).1 ∙ c.in-Some.is) in
    let w = swap-within _ _ _ _ c.loop-swap.invariant _ c.weigh_order.ensures a.0 in
    omega (arith, w.1, ap (λ (s : Swap). s.1) a.1, c.loop-swap.invariant.ordered.few)

pub loop-swap-smaller : goal.loop-swap-smaller
loop-swap-smaller c =
    let a = a-swap _ _ _ ((answer-fine _ _ _ (sym c.next.ensures.value ∙ c.unwrap.ensures)).1 ∙ c.in-Some.is) in
    rw c.next.ensures.state_after (round-less _ _ _ _ c.loop-swap.invariant _ c.weigh_order.ensures a.0)

pub loop-swap-preserved : goal.loop-swap-preserved
loop-swap-preserved c =
    let order = c.loop-swap.order in
    let h : length order ≡ max_searched = search rules in
    let a = a-swap _ _ _ ((answer-fine _ _ _ (sym c.next.ensures.value ∙ c.unwrap.ensures)).1 ∙ c.in-Some.is) in
    let w = swap-within _ _ _ _ c.loop-swap.invariant _ c.weigh_order.ensures a.0 in
    let few = c.loop-swap.invariant.ordered.few in
    let e : swapped c.in-Some.swap.0 c.in-Some.swap.1 order ≡ c.swap.new.self =
    swapped-library _ _ order (omega (arith, w.0, ap (λ (s : Swap). s.0) a.1, few)) (omega (arith, w.1, ap (λ (s : Swap). s.1) a.1, few)) ∙ sym c.swap.ensures.after in
    rw (c.next.ensures.state_after, ← e)
    (subst (λ (s : Swap). Round c.args.query.now c.weigh_order.new.best (swapped s.0 s.1 order) (next_swap_of c.loop-swap.swaps).state) a.1
    (round-again _ _ _ _ c.loop-swap.invariant _ c.weigh_order.ensures a.0))
