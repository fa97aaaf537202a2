-- Fields written one behind the other.
use mathlib.Core.Path.{◌≡◌, refl, ap, ◌∙◌}
use Prim.Native.Nat.{ℕ, ◌+◌}
use mathlib.Core.List.{List, ◌++◌}
use native.Mathlib.Omega.{arith}
use lib.ListN.{length, length-append}
use Rattle.bits.specs.Bits.{bits, bits_over, AllBelow}
use Rattle.bits.proofs.Laws.{bits-length, bits_below, below-append}
use Rattle.bits.proofs.Over.{over-then}

-- bits so far, from `at` on: what they are, and where the next field goes
pub record Drawn (given : List ℕ) (at : ℕ) (l buffer : List ℕ) (next : ℕ) : Type 0 where
  pub buffer_is : buffer ≡ bits_over given at l
  pub next_is : next ≡ at + length l
  pub below : AllBelow 2 l

-- and another piece
pub drawn-then : {given l m buffer buffer' : List ℕ} {at next next' : ℕ} → Drawn given at l buffer next → Drawn buffer next m buffer' next' → Drawn given at (l ++ m) buffer' next'
drawn-then {given} {l} {m} {buffer} {buffer'} {at} {next} {next'} d e = record {
  buffer_is = e.buffer_is ∙ ap (λ (b : List ℕ). bits_over b next m) d.buffer_is ∙ over-then given at next l m d.below e.below d.next_is;
  next_is = omega (arith, d.next_is, e.next_is, length-append l m);
  below = below-append 2 l m d.below e.below;
}

-- a field
pub drawn-field : (given buffer : List ℕ) (at w v : ℕ) → buffer ≡ bits_over given at (bits w v) → Drawn given at (bits w v) buffer (at + w)
drawn-field given buffer at w v e = record { buffer_is = e; next_is = rw (bits-length w v) refl; below = bits_below w v }

-- a scan's five
pub five-written : (b b₁ b₂ b₃ b₄ b₅ : List ℕ) (at x f e a v : ℕ) → b₁ ≡ bits_over b at (bits 2 x) → b₂ ≡ bits_over b₁ (at + 2) (bits 2 f) → b₃ ≡ bits_over b₂ (at + 2 + 2) (bits 7 e)
    → b₄ ≡ bits_over b₃ (at + 2 + 2 + 7) (bits 64 a) → b₅ ≡ bits_over b₄ (at + 2 + 2 + 7 + 64) (bits 7 v)
    → b₅ ≡ bits_over b at (bits 2 x ++ bits 2 f ++ bits 7 e ++ bits 64 a ++ bits 7 v)
five-written b b₁ b₂ b₃ b₄ b₅ at x f e a v p q r s t =
    (drawn-then (drawn-then (drawn-then (drawn-then (drawn-field b b₁ at 2 x p) (drawn-field b₁ b₂ (at + 2) 2 f q)) (drawn-field b₂ b₃ (at + 2 + 2) 7 e r)) (drawn-field b₃ b₄ (at + 2 + 2 + 7) 64 a s))
    (drawn-field b₄ b₅ (at + 2 + 2 + 7 + 64) 7 v t)).buffer_is
