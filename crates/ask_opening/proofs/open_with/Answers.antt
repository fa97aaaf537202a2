-- A refusal, or the plan text and the cost.
use Rattle.std.proofs.Common.{refl}
use Rattle.ask_opening.proofs.Said.{opens_as, opened-refused, opened-fine, text-fine}
use Rattle.ask_opening.proofs.open_with.Goals as goal

pub returns-in-Err : goal.returns-in-Err
returns-in-Err c = let a = c.args in opens_as (opened-refused a.words.now a.plan a.names.now a.ends.now _ a.cost _ c.showing_fault.ensures c.in-Err.is) c.say_refusal.ensures

pub write_opening-length-requires : goal.write_opening-length-requires
write_opening-length-requires c = let a = c.args in text-fine a.words.now a.plan a.names.now a.ends.now _ a.cost _ c.showing_fault.ensures c.in-Ok.is

pub returns-in-Ok : goal.returns-in-Ok
returns-in-Ok c = let a = c.args in opens_as (opened-fine a.words.now a.plan a.names.now a.ends.now _ a.cost _ c.showing_fault.ensures c.in-Ok.is) (record { plan_is = refl; line = c.write_opening-length.ensures })
