-- None of the scans is refused, and a turn is one of proofs/Through.antt's.
use mathlib.Core.Path.{refl, sym, ◌∙◌}
use Rattle.planner.proofs.Answered.{answer-fine}
use Rattle.search.specs.declared.Best.{Best}
use Rattle.search.proofs.Kept.{better-kept}
use Rattle.search.proofs.Through.{through-start, through-costs, through-steps, through-stepped, through-end, through-again, through-less}
use Rattle.search.proofs.weigh_plans.Goals as goal
use Rattle.search.proofs.weigh_plans.Goals.{then-is_better, else-is_better}

pub loop-scans-init : goal.loop-scans-init
loop-scans-init c = through-start _ _ _ _ c.requires.plans

pub unwrap-cost-requires : goal.unwrap-cost-requires
unwrap-cost-requires c = rw (c.cost_of_scans.ensures, through-costs _ _ _ _ _ _ c.requires.orders c.loop-scans.invariant) refl

pub unwrap-is_new-requires : goal.unwrap-is_new-requires
unwrap-is_new-requires c = rw (c.next_scans.ensures.value, through-steps _ _ _ _ _ _ c.requires.orders c.loop-scans.invariant) refl

pub returns-then-not-is_new : goal.returns-then-not-is_new
returns-then-not-is_new c =
    let n : Best = record { order = c.args.order.now; scans = c.loop-scans.scans; cost = c.unwrap-cost.result } in
    let costs = sym (answer-fine _ _ _ (sym c.cost_of_scans.ensures ∙ c.unwrap-cost.ensures)).1 in
    let steps = through-stepped _ _ _ _ _ _ c.requires.orders c.loop-scans.invariant _ _ (sym c.next_scans.ensures.value ∙ c.unwrap-is_new.ensures) c.next_scans.ensures.scans_after in
    through-end _ _ _ _ _ _ c.requires.orders c.loop-scans.invariant _ costs _
    (better-kept c.loop-scans.best n c.is_better.result c.if-is_better.best c.is_better.ensures
    (elim c.if-is_better.branch [ then-is_better w ↦ rw (w.best-is, w.if-is_better.true) refl | else-is_better w ↦ rw (w.best-is, w.if-is_better.false) refl ]))
    (steps.0 ∙ c.if-not-is_new.true)

pub loop-scans-smaller : goal.loop-scans-smaller
loop-scans-smaller c =
    let n : Best = record { order = c.args.order.now; scans = c.loop-scans.scans; cost = c.unwrap-cost.result } in
    let costs = sym (answer-fine _ _ _ (sym c.cost_of_scans.ensures ∙ c.unwrap-cost.ensures)).1 in
    let steps = through-stepped _ _ _ _ _ _ c.requires.orders c.loop-scans.invariant _ _ (sym c.next_scans.ensures.value ∙ c.unwrap-is_new.ensures) c.next_scans.ensures.scans_after in
    through-less _ _ _ _ _ _ c.requires.orders c.loop-scans.invariant _ costs _
    (better-kept c.loop-scans.best n c.is_better.result c.if-is_better.best c.is_better.ensures
    (elim c.if-is_better.branch [ then-is_better w ↦ rw (w.best-is, w.if-is_better.true) refl | else-is_better w ↦ rw (w.best-is, w.if-is_better.false) refl ]))
    (steps.0 ∙ c.if-not-is_new.false) _ steps.1

pub loop-scans-preserved : goal.loop-scans-preserved
loop-scans-preserved c =
    let n : Best = record { order = c.args.order.now; scans = c.loop-scans.scans; cost = c.unwrap-cost.result } in
    let costs = sym (answer-fine _ _ _ (sym c.cost_of_scans.ensures ∙ c.unwrap-cost.ensures)).1 in
    let steps = through-stepped _ _ _ _ _ _ c.requires.orders c.loop-scans.invariant _ _ (sym c.next_scans.ensures.value ∙ c.unwrap-is_new.ensures) c.next_scans.ensures.scans_after in
    through-again _ _ _ _ _ _ c.requires.orders c.loop-scans.invariant _ costs _
    (better-kept c.loop-scans.best n c.is_better.result c.if-is_better.best c.is_better.ensures
    (elim c.if-is_better.branch [ then-is_better w ↦ rw (w.best-is, w.if-is_better.true) refl | else-is_better w ↦ rw (w.best-is, w.if-is_better.false) refl ]))
    (steps.0 ∙ c.if-not-is_new.false) _ steps.1
