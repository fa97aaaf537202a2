-- Part after part, the words are the plan's.
use Rattle.std.proofs.Common.{rules, ℕ, arith}
use lib.ListN.{replicate, length-replicate}
use Rattle.loader_words.specs.Words.{plan_words}
use Rattle.plan.specs.Plan.{Filled}
use Rattle.loader_plan_words.proofs.Laid.{put_three}
use Rattle.loader_plan_words.proofs.Written.{plan-written}
use Rattle.loader_plan_words.proofs.words_of_plan.Goals as goal

pub returns : goal.returns
returns c =
    let full : Filled c.args.plan = record { many_scans = search rules; many_slots = search rules; many_selects = search rules } in
    plan-written c.args.plan full (replicate plan_words 0) _ _ _ _ (length-replicate {A = ℕ} plan_words 0)
    (put_three (replicate plan_words 0) _ _ _ (omega arith))
    c.write_scans.ensures c.write_slots.ensures c.write_select.ensures
