-- `cost_of_counted` meets its contract: at every turn the cost is the weight of the scans gone through, and none of them has passed.
use Rattle.std.proofs.Common.{◌∙◌, sym, refl, [], ◌∷◌, append-nil}
use Rattle.cost.specs.Cost.{weight, weight_fault}
use Rattle.cost.proofs.Weight.{whole-on, weight-on, fault-on, over}
use Rattle.cost.proofs.cost_of_counted.Goals as goal

pub loop-scan-init : goal.loop-scan-init
unfolding weight weight_fault
loop-scan-init c = ([], sym (append-nil _), refl, refl)

pub returns-then-penalty-steps : goal.returns-then-penalty-steps
returns-then-penalty-steps c =
    let l = c.loop-scan.invariant in
    let room = rw (c.locality_penalty-penalty.ensures, c.iters-steps.ensures) at c.if-penalty-steps.true in
    c.refuse.ensures ∙ sym (rw (over _ _ _ _ _ _ l.1 c.in-Some.ensures.cases.0 l.2 l.3 room) refl)

pub loop-scan-preserved : goal.loop-scan-preserved
loop-scan-preserved c =
    let l = c.loop-scan.invariant in
    let last = c.in-Some.ensures.cases.0 in
    let room = rw (c.locality_penalty-penalty.ensures, c.iters-steps.ensures) at c.if-penalty-steps.false in (
      c.in-Some.scan.now ∷ l.0,
      whole-on _ _ _ _ _ _ l.1 last l.2 l.3,
      weight-on _ _ _ _ _ _ l.1 last l.2 l.3 ∙ rw (c.locality_penalty-penalty.ensures, c.iters-steps.ensures) refl,
      fault-on _ _ _ _ _ _ l.1 last l.2 l.3 room,
    )
