use mathlib.Core.Path.{◌≡◌, sym, ap, ◌∙◌}
use Prim.Native.Nat.{ℕ, ◌+◌, ◌-◌, ◌*◌, ◌/◌, ◌%◌, ◌^◌}
use mathlib.Core.List.{◌++◌}
use native.Mathlib.Omega.{arith}
use lib.Pow.{pow_pos}
use Rattle.lists.proofs.Sets.{sets-past}
use Rattle.bits.specs.Bits.{bits, packed}
use Rattle.bits.proofs.Bytes.{few-lt, behind-byte}
use Rattle.bits.proofs.Over.{byte-written}
use Rattle.bits.proofs.write_behind.Goals as goal

pub write_last-requires : goal.write_last-requires
write_last-requires c = let l = c.loop-i in (omega (arith, l.invariant.0), l.invariant.1, omega arith)

pub returns-then-left-room : goal.returns-then-left-room
returns-then-left-room c = c.write_last.ensures ∙ c.loop-i.invariant.2

pub behind-requires : goal.behind-requires
behind-requires c = let l = c.loop-i in (few-lt l.count l.held (omega (arith, l.invariant.0)) l.invariant.1, omega arith)

pub overflow_cast-out : goal.overflow_cast-out
overflow_cast-out c =
    let l = c.loop-i in
    record { fits = (behind-byte l.count (8 - l.count) l.held _ _ (omega (arith, l.invariant.0)) l.invariant.1 c.behind.ensures).1 }

pub loop-i-preserved : goal.loop-i-preserved
loop-i-preserved c =
    let l = c.loop-i in
    let a = c.args in
    let is : c.behind.result ≡ l.held * 2 ^ (8 - l.count) + a.value / 2 ^ (l.left - (8 - l.count)) % 2 ^ (8 - l.count) =
    c.behind.ensures ∙ ap (λ (x : ℕ). l.held * 2 ^ (8 - l.count) + x % 2 ^ (8 - l.count)) c.above.ensures in (
      omega arith,
      pow_pos 0,
      sym (byte-written l.out l.i l.count (8 - l.count) l.left (l.left - (8 - l.count)) l.held a.value _
          (omega (arith, l.invariant.0)) (omega arith) l.invariant.1 is) ∙ l.invariant.2,
    )

pub returns : goal.returns
returns c = let l = c.loop-i in sym (sets-past (packed (bits l.count l.held ++ bits l.left _)) l.out l.i (omega arith)) ∙ l.invariant.2
