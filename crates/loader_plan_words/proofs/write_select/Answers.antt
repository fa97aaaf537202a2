-- One more.
use Rattle.std.proofs.Common.{rules, ◌≡◌, ◌*◌, length, refl, arith}
use Rattle.capacity.specs.Capacity.{max_selects}
use Rattle.plan.specs.Plan.{zero_slot}
use Rattle.loader_words.specs.Words.{select_at}
use Rattle.lists.proofs.Laid.{laid_none}
use Rattle.loader_plan_words.specs.Write.{words_of_select}
use Rattle.loader_plan_words.proofs.Laid.{put-none, laid_more}
use Rattle.loader_plan_words.proofs.write_select.Goals as goal

pub loop-i-init : goal.loop-i-init
loop-i-init c = rw (← (laid_none words_of_select)) (put-none _ select_at)

pub loop-i-preserved : goal.loop-i-preserved
loop-i-preserved c =
    let l = c.loop-i in
    let h : length c.args.select.now ≡ max_selects = search rules in
    laid_more words_of_select 1 (λ _. refl) c.args.select.now c.args.words.now l.words _ select_at l.i zero_slot (omega arith) (omega (arith, c.requires)) l.invariant (let m : 1 * l.i ≡ l.i = omega arith in rw m c.write_selected.ensures)
