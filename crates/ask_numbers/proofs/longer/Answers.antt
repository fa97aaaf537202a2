use native.Mathlib.Omega.{arith}
use Rattle.ask_numbers.proofs.Bytes.{no-digit-stops, zero-stops, too-long-stops, goes-or-not}
use Rattle.ask_numbers.proofs.longer.Goals as goal

pub returns-in_err-digit : goal.returns-in_err-digit
returns-in_err-digit c = rw c.from_residual.ensures (no-digit-stops _ _ c.in_err-digit.ensures)

pub returns-then-value-eq0 : goal.returns-then-value-eq0
returns-then-value-eq0 c = zero-stops _ _ c.in_ok-digit.ensures.0 c.if-value-eq0.true

pub returns-in_err-checked_mul : goal.returns-in_err-checked_mul
returns-in_err-checked_mul c =
    let h = c.in_err-checked_mul.ensures in
    rw c.from_residual-in_err-checked_mul.ensures (too-long-stops _ _ c.in_ok-digit.ensures.0 (omega (arith, h)))

pub returns : goal.returns
returns c =
    let d = c.in_ok-digit.ensures in
    goes-or-not _ _ _ _ c.checked_add.result d.0 c.if-value-eq0.false d.1 c.in_ok-checked_mul.ensures.1 c.checked_add.ensures
