-- A word has no bits in front of its last 64.
use native.Mathlib.Omega.{arith}
use borrow.Author.Rules.{rules}
use Rattle.bits.proofs.Bytes.{none_above}
use Rattle.bits.proofs.above.Goals as goal

pub returns-else-n-lt64 : goal.returns-else-n-lt64
returns-else-n-lt64 c = none_above c.args.value c.args.n (search rules) (omega arith)
