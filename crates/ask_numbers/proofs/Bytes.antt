-- Laws of single bytes: spaces, digits, and the next digit of a number.
use mathlib.Core.Path.{◌≡◌}
use mathlib.Core.Bool.{true, false, and-false}
use Prim.Native.Nat.{ℕ, ◌+◌, ◌*◌, ◌^◌, ◌≤◌, ◌<◌}
use native.Mathlib.Omega.{arith}
use borrow.Author.Tests.{lt-ltb, le-ltb}
use Rattle.std.specs.Prelude.{Option, Some, None, MatchOption}
use Rattle.std.specs.Option.{SomeIff}
use Rattle.ask_numbers.specs.Words.{digit, digit_value, longer, goes_on}

module _ (v b : ℕ) where
  pub no-digit-stops : digit b ≡ false → goes_on v b ≡ false
  unfolding goes_on
  no-digit-stops h = rw h

  pub zero-stops : digit b ≡ true → v ≡ 0 → goes_on v b ≡ false
  unfolding goes_on
  zero-stops d h = rw (d, le-ltb 0 v (omega arith))

  pub too-long-stops : digit b ≡ true → 2 ^ 64 ≤ longer v b → goes_on v b ≡ false
  unfolding goes_on
  too-long-stops d h = rw (d, le-ltb (longer v b) (2 ^ 64) h, and-false)

  pub goes : digit b ≡ true → (v ≡ 0 → ⊥) → longer v b < 2 ^ 64 → goes_on v b ≡ true
  unfolding goes_on
  goes d z h = rw (d, lt-ltb 0 v (omega arith), lt-ltb (longer v b) (2 ^ 64) h)

-- a sum where it is a number, behind a digit
pub goes-or-not : (v b d t : ℕ) (r : Option ℕ) → digit b ≡ true → (v ≡ 0 → ⊥) → d ≡ digit_value b → t ≡ v * 10 → SomeIff r (t + d < 2 ^ 64) (t + d)
    → MatchOption r (goes_on v b ≡ false) (λ n. (goes_on v b ≡ true) × (n ≡ longer v b))
goes-or-not v b d t None e z f g s = too-long-stops v b e (omega (arith, s))
goes-or-not v b d t (Some n) e z f g s = (goes v b e z (omega (arith, s.0)), omega (arith, s.1))
