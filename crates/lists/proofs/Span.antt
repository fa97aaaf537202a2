-- Numbers one after the other: how many, and each of them.
use mathlib.Core.Path.{◌≡◌, refl, ap, ◌∙◌}
use Prim.Native.Nat.{ℕ, zero, suc, ◌+◌, ◌<◌}
use native.Mathlib.Nat.{not-suc-le-zero, le_of_suc-le-suc}
use native.Mathlib.Omega.{arith}
use lib.ListN.{length, get_or}
use Rattle.lists.specs.Span.{span}

-- m numbers from a on are m
pub length-span : (a m : ℕ) → length (span a m) ≡ m
unfolding span
length-span a zero = refl
length-span a (suc m) = ap suc (length-span (a + 1) m)

-- the one at i
pub get_or-span : (a m i : ℕ) → i < m → get_or (span a m) i 0 ≡ a + i
unfolding span
get_or-span a zero i h = absurd (not-suc-le-zero h)
get_or-span a (suc m) zero h = omega arith
get_or-span a (suc m) (suc i) h = get_or-span (a + 1) m i (le_of_suc-le-suc h) ∙ omega arith
