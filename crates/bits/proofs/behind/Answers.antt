-- Nothing is shifted out.
use native.Mathlib.Omega.{arith}
use mathlib.Core.Path.{refl}
use lib.Pow.{pow_pos}
use Rattle.bits.proofs.Bytes.{behind-few, one_shifted}
use Rattle.bits.proofs.behind.Goals as goal

pub overflow_mul-result : goal.overflow_mul-result
overflow_mul-result c =
    let a = c.args in
    let few = behind-few a.held a.n a.value c.requires.0 c.requires.1 in
    rw (one_shifted a.n c.requires.1) (record { fits = omega arith })

pub nonzero_rem-result : goal.nonzero_rem-result
nonzero_rem-result c = rw (one_shifted c.args.n c.requires.1) (pow_pos c.args.n)

pub overflow_add-result : goal.overflow_add-result
overflow_add-result c =
    let a = c.args in
    let few = behind-few a.held a.n a.value c.requires.0 c.requires.1 in
    rw (one_shifted a.n c.requires.1) (record { fits = omega arith })

pub returns : goal.returns
returns c = rw (one_shifted c.args.n c.requires.1) refl
