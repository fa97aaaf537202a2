-- `write_last` meets its contract: no bits and no byte, or a byte with zero bits behind.
use mathlib.Core.Path.{◌≡◌, sym}
use Prim.Native.Nat.{◌+◌, ◌-◌}
use native.Mathlib.Omega.{arith}
use Rattle.bits.proofs.Bytes.{behind-byte}
use Rattle.bits.proofs.Over.{last_written, none_written}
use Rattle.bits.proofs.write_last.Goals as goal

pub behind-requires-then-filled-gt0 : goal.behind-requires-then-filled-gt0
behind-requires-then-filled-gt0 c =
    let a = c.args in
    ((behind-byte a.count a.left a.held a.value _ (omega (arith, c.requires.0)) c.requires.1 c.behind.ensures).1, omega arith)

pub overflow_cast-out : goal.overflow_cast-out
overflow_cast-out c =
    let a = c.args in
    let y = (behind-byte a.count a.left a.held a.value _ (omega (arith, c.requires.0)) c.requires.1 c.behind.ensures).0 in
    let z = (behind-byte (a.count + a.left) (8 - (a.count + a.left)) _ _ _ (omega (arith, c.requires.0)) y c.behind-then-filled-gt0.ensures).1 in
    record { fits = z }

pub returns-then-filled-gt0 : goal.returns-then-filled-gt0
returns-then-filled-gt0 c =
    let a = c.args in
    sym (last_written a.out.now a.i a.count a.left (8 - (a.count + a.left)) a.held a.value _ _
    (omega (arith, c.requires.0)) (omega arith) (omega (arith, c.requires.0)) c.requires.1 c.behind.ensures c.behind-then-filled-gt0.ensures)

pub returns-else-filled-gt0 : goal.returns-else-filled-gt0
returns-else-filled-gt0 c =
    let a = c.args in
    let z : a.count ≡ 0 = omega arith in
    let y : a.left ≡ 0 = omega arith in
    rw (z, y) (sym (none_written a.out.now a.i a.held a.value))
