-- One more.
use Rattle.std.proofs.Common.{rules, ◌≡◌, length, refl, arith}
use Rattle.capacity.specs.Capacity.{max_scans}
use Rattle.plan.specs.Plan.{zero_scan}
use Rattle.loader_words.specs.Words.{scans_at, scan_words}
use Rattle.lists.proofs.Laid.{laid_none}
use Rattle.loader_plan_words.specs.Write.{words_of_scan}
use Rattle.loader_plan_words.proofs.Laid.{put-none, laid_more}
use Rattle.loader_plan_words.proofs.write_scans.Goals as goal

pub loop-i-init : goal.loop-i-init
loop-i-init c = rw (← (laid_none words_of_scan)) (put-none _ scans_at)

pub loop-i-preserved : goal.loop-i-preserved
loop-i-preserved c =
    let l = c.loop-i in
    let h : length c.args.scans.now ≡ max_scans = search rules in
    laid_more words_of_scan scan_words (λ _. refl) c.args.scans.now c.args.words.now l.words _ scans_at l.i zero_scan (omega arith) (omega (arith, c.requires)) l.invariant c.write_scan.ensures
