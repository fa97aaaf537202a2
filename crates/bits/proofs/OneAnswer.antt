-- No second answer fits the promise of this crate.
use mathlib.Core.Path.{◌≡◌, sym, ◌∙◌}
use mathlib.Core.List.{List}
use Prim.Native.Nat.{ℕ}
use Rattle.bits.specs.Bits.{bits, bits_over}

-- `write_bits`: the buffer, which is all that it gives
pub write-bits-one : (value width at : ℕ) (buffer b b' : List ℕ) → b ≡ bits_over buffer at (bits width value) → b' ≡ bits_over buffer at (bits width value) → b ≡ b'
write-bits-one value width at buffer b b' e f = e ∙ sym f
