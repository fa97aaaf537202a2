-- The mark, and then the value.
use Rattle.std.proofs.Common.{ℕ, List, ◌+◌, ap, ◌∙◌, arith}
use Rattle.bits.specs.Bits.{bits, bits_over}
use Rattle.bits.proofs.Laws.{bits-length, bits_below}
use Rattle.bits.proofs.Over.{over-then}
use Rattle.image_write.proofs.write_constant.Goals as goal

pub returns : goal.returns
unfolding bits
returns c =
    let a = c.args in
    c.write_bits-2.ensures ∙ ap (λ (b : List ℕ). bits_over b (a.at + 1) (bits 64 a.value)) c.write_bits.ensures ∙
    over-then a.out.now a.at (a.at + 1) (bits 1 1) (bits 64 a.value) (bits_below 1 1) (bits_below 64 a.value) (omega (arith, bits-length 1 1))
