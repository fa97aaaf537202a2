-- The number falls at the call.
use Rattle.text_pieces.proofs.+write_digits.Given as goal

abbrev pub decreases-write_digits : goal.decreases-write_digits
decreases-write_digits l = l.number
