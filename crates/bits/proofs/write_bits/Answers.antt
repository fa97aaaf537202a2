-- The bits go behind those that stand in front in the first byte.
use mathlib.Core.Path.{◌≡◌, refl, sym, ap, ◌∙◌}
use Prim.Native.Nat.{ℕ, ◌/◌, ◌<◌}
use mathlib.Core.List.{List, ◌++◌}
use native.Mathlib.Omega.{arith}
use lib.ListN.{length}
use lib.Seq.{sets}
use Rattle.lists.proofs.Sets.{sets-past}
use Rattle.bits.specs.Bits.{bits, packed, bits_before}
use Rattle.bits.proofs.Laws.{bits-length}
use Rattle.bits.proofs.Over.{over-some}
use Rattle.bits.proofs.write_bits.Goals as goal

pub returns-then-width-eq0 : goal.returns-then-width-eq0
unfolding bits
returns-then-width-eq0 c = let none : c.args.width ≡ 0 = omega arith in rw none refl

pub returns-then-i-out : goal.returns-then-i-out
returns-then-i-out c =
    let a = c.args in
    let some : 0 < length (bits a.width a.value) = omega (arith, bits-length a.width a.value) in
    c.write_behind.ensures ∙
    ap (λ (l : List ℕ). sets a.out.now (a.at / 8) (packed (l ++ bits a.width a.value))) c.front.ensures.1 ∙
    over-some a.out.now a.at (bits a.width a.value) some

pub returns-else-i-out : goal.returns-else-i-out
returns-else-i-out c =
    let a = c.args in
    let l = bits a.width a.value in
    let some : 0 < length l = omega (arith, bits-length a.width a.value) in
    sym (sets-past (packed (bits_before a.out.now a.at ++ l)) a.out.now (a.at / 8) (omega arith)) ∙ over-some a.out.now a.at l some
