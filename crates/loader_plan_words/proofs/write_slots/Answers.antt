-- One more.
use Rattle.std.proofs.Common.{rules, ◌≡◌, length, refl, arith}
use Rattle.capacity.specs.Capacity.{max_slots}
use Rattle.plan.specs.Plan.{variable_slot}
use Rattle.loader_words.specs.Words.{slots_at, slot_words}
use Rattle.lists.proofs.Laid.{laid_none}
use Rattle.loader_plan_words.specs.Write.{words_of_slot}
use Rattle.loader_plan_words.proofs.Laid.{put-none, laid_more}
use Rattle.loader_plan_words.proofs.write_slots.Goals as goal

pub loop-i-init : goal.loop-i-init
loop-i-init c = rw (← (laid_none words_of_slot)) (put-none _ slots_at)

pub loop-i-preserved : goal.loop-i-preserved
loop-i-preserved c =
    let l = c.loop-i in
    let h : length c.args.slots.now ≡ max_slots = search rules in
    laid_more words_of_slot slot_words (λ _. refl) c.args.slots.now c.args.words.now l.words _ slots_at l.i variable_slot (omega arith) (omega (arith, c.requires)) l.invariant c.write_slot.ensures
