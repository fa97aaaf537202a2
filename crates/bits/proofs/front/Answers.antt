use native.Mathlib.Omega.{arith}
use borrow.Author.Rules.{rules}
use Rattle.bits.proofs.Bytes.{above-lt, front-bits}
use Rattle.bits.proofs.front.Goals as goal

pub returns : goal.returns
returns c =
    let a = c.args in
    rw c.from.ensures (above-lt a.count a.byte (omega (arith, c.requires)) (search rules), front-bits a.count a.byte (omega (arith, c.requires)))
