-- Before turn i the first i bytes are written.
use Rattle.std.proofs.Common.{take}
use Rattle.text_pieces.specs.Wrote.{Wrote}
use Rattle.text_pieces.specs.Escaped.{escaped}
use Rattle.text_pieces.proofs.Pen.write_escaped.Given as goal

abbrev pub invariant-loop-byte : goal.invariant-loop-byte
invariant-loop-byte l = Wrote (escaped (take l.byte-index l.name)) l.fn.self l.self
