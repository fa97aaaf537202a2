-- The number of both parts, and why it is a word.
use Rattle.std.proofs.Common.{◌≡◌, ℕ, ◌+◌, ◌*◌, ◌-◌, ◌^◌, ◌<◌, sym, ap, ◌∙◌, arith}
use native.Mathlib.Nat.{lt_of_lt_of_le, lt_of_le_of_lt, le-add_right}
use lib.Pow.{pow_mono}
use Rattle.bits.specs.Bits.{number}
use Rattle.image_read.specs.Reads.{bit_of}
use Rattle.image_read.proofs.Window.{bits_at, bits-at-lt, two-parts}
use Rattle.image_read.proofs.fields.bits_at.Goals as goal

pub returns : goal.returns
returns c =
    let a = c.args in
    let b = a.bytes.now in
    let at = bit_of a.at in
    let v = a.width - 32 in
    let e : v + 32 ≡ a.width = omega arith in
    let low = c.part_at-low.ensures ∙ ap (λ (n : ℕ). number (bits_at b n 32)) c.later.ensures.later in
    rw (c.part_at-high.ensures, low, c.power.ensures) (sym (two-parts b at v 32 (omega arith)) ∙ ap (λ (n : ℕ). number (bits_at b at n)) e)

pub overflow_add-result : goal.overflow_add-result
overflow_add-result c =
    let a = c.args in
    record { fits = rw (returns c) (lt_of_lt_of_le (bits-at-lt a.bytes.now (bit_of a.at) a.width (omega arith)) (pow_mono {j = 64} (omega arith))) }

pub overflow_mul-result : goal.overflow_mul-result
overflow_mul-result c = record { fits = lt_of_le_of_lt (le-add_right _ _) (overflow_add-result c).fits }
