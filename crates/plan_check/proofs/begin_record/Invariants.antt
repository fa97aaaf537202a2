-- The entries below the loop's slot are those of the constants.
use Rattle.std.proofs.Common.{◌≡◌, take}
use Rattle.plan_check.specs.Record.{constants_record}
use Rattle.plan_check.proofs.begin_record.Given as goal

abbrev pub invariant-loop-i_slot : goal.invariant-loop-i_slot
invariant-loop-i_slot l = take l.i_slot l.initialization ≡ constants_record (take l.i_slot l.slots)
