-- One count behind the other.
use Rattle.std.proofs.Common.{◌≡◌, ℕ, List, ◌++◌, ap, ◌∙◌, arith, length-append}
use Rattle.bits.specs.Bits.{bits, bits_over}
use Rattle.bits.proofs.Laws.{bits-length, bits_below, below-append}
use Rattle.bits.proofs.Over.{over-then}
use Rattle.image_write.proofs.write_counts.Goals as goal

pub returns : goal.returns
returns c =
    let a = c.args in
    let n = bits 6 a.scan_count in
    let m = bits 7 a.slot_count in
    let k = bits 6 a.select_count in
    let two : _ ≡ bits_over a.out.now 0 (n ++ m) =
    c.write_bits-2.ensures ∙ ap (λ (b : List ℕ). bits_over b 6 m) c.write_bits.ensures ∙
    over-then a.out.now 0 6 n m (bits_below 6 a.scan_count) (bits_below 7 a.slot_count) (omega (arith, bits-length 6 a.scan_count)) in
    c.write_bits-3.ensures ∙ ap (λ (b : List ℕ). bits_over b 13 k) two ∙
    over-then a.out.now 0 13 (n ++ m) k (below-append 2 n m (bits_below 6 a.scan_count) (bits_below 7 a.slot_count)) (bits_below 6 a.select_count)
    (omega (arith, length-append n m, bits-length 6 a.scan_count, bits-length 7 a.slot_count))
