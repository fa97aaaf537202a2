-- The digits of a number.
use mathlib.Core.Path.{◌≡◌, ap}
use mathlib.Core.Logic.{⊎_elim}
use mathlib.Core.List.{List, [], ◌∷◌, ◌++◌}
use Prim.Native.Nat.{ℕ, zero, suc, ◌/◌, ◌%◌, ◌≤◌, ◌<◌, min}
use native.Mathlib.Omega.{arith}
use borrow.Author.Tests.{lt-ltb, le-ltb}
use mathlib.Core.Bool.{cond}
use native.Mathlib.Nat.{min-le_left, eq-or-lt_of_le, not-suc-le-zero}
use lib.Dec.{ltb}
use Rattle.text_pieces.specs.Decimal.{digit, digits_within, decimal}

-- more places than digits change nothing
within-enough : (k j n : ℕ) → n < k → n < j → digits_within k n ≡ digits_within j n
unfolding digits_within
within-enough zero j n h g = absurd (not-suc-le-zero h)
within-enough (suc k) zero n h g = absurd (not-suc-le-zero g)
within-enough (suc k) (suc j) n h g =
    ⊎_elim (λ (small : min n 9 ≡ n). rw (lt-ltb n 10 (omega arith)))
    (λ (big : min n 9 < n).
    let e : digits_within k (n / 10) ≡ digits_within j (n / 10) = within-enough k j (n / 10) (omega arith) (omega arith) in
    ap (λ (t : List ℕ). cond (ltb n 10) (digit n ∷ []) (t ++ (digit (n % 10) ∷ []))) e) (eq-or-lt_of_le (min-le_left n 9))

-- a number below ten is its digit
pub decimal-one : (n : ℕ) → n < 10 → decimal n ≡ digit n ∷ []
unfolding decimal digits_within
decimal-one n h = rw (lt-ltb n 10 h)

-- another is the digits of its tens and then its last
pub decimal-more : (n : ℕ) → 10 ≤ n → decimal n ≡ decimal (n / 10) ++ (digit (n % 10) ∷ [])
unfolding decimal digits_within
decimal-more n h =
    rw (le-ltb n 10 h) (ap (λ (t : List ℕ). t ++ (digit (n % 10) ∷ [])) (within-enough n (suc (n / 10)) (n / 10) (omega arith) (omega arith)))
