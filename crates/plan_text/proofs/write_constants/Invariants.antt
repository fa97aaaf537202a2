-- Before turn i the constants of the first i slots are written.
use Rattle.std.proofs.Common.{take}
use Rattle.text_pieces.specs.Wrote.{Wrote}
use Rattle.plan_text.specs.Text.{constant_lines}
use Rattle.plan_text.proofs.write_constants.Given as goal

abbrev pub invariant-loop-i_slot : goal.invariant-loop-i_slot
invariant-loop-i_slot l = Wrote (constant_lines (take l.i_slot l.slots) 0) l.initial.pen l.pen
