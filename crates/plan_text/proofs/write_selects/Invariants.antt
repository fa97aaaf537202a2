-- Before turn i the first i selects are written, joined.
use Rattle.std.proofs.Common.{length, take}
use Rattle.text_pieces.specs.Wrote.{Wrote}
use Rattle.plan_text.specs.Text.{selects_text}
use Rattle.plan_text.proofs.write_selects.Given as goal

abbrev pub invariant-loop-i : goal.invariant-loop-i
invariant-loop-i l =
    Wrote (selects_text (take (length l.names.ends.now) l.names.slots.now) l.names.names.now l.names.ends.now (take l.i l.select)) l.initial.pen l.pen
