use Prim.Native.Nat.{◌≤◌, ◌<◌}
use native.Mathlib.Omega.{arith}
use Rattle.text_pieces.proofs.Written.{written_then}
use Rattle.text_pieces.proofs.Decimal.{decimal-one, decimal-more}
use Rattle.text_pieces.proofs.+write_digits.Goals as goal

pub returns-then-number-lt10 : goal.returns-then-number-lt10
returns-then-number-lt10 t c = let h : c.args.number < 10 = omega arith in rw (decimal-one _ h) c.write.ensures

pub returns : goal.returns
returns t c = let h : 10 ≤ c.args.number = omega arith in rw (decimal-more _ h) (written_then c.write_digits-tens.ensures c.write-2.ensures)
