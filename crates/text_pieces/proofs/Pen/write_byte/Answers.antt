-- The byte, or its escape.
use mathlib.Core.Path.{sym}
use Rattle.text_pieces.specs.Escaped.{escaped_byte}
use Rattle.text_pieces.proofs.Pen.write_byte.Goals as goal

pub returns-then-is_plain : goal.returns-then-is_plain
unfolding escaped_byte
returns-then-is_plain c = rw (sym c.if-is_plain.ensures) c.write.ensures

pub returns-else-is_plain : goal.returns-else-is_plain
unfolding escaped_byte
returns-else-is_plain c = rw (sym c.if-is_plain.ensures, ← c.hex_digit.ensures, ← c.hex_digit-else-is_plain.ensures) c.write-else-is_plain.ensures
