-- 01, "Plan text": numbers print in decimal.
use Rattle.std.specs.Prelude.{◌≡◌, ℕ, zero, suc, ◌+◌, ◌-◌, ◌*◌, ◌/◌, ◌%◌, ◌≤◌, ◌<◌, cond, List, [], ◌∷◌, ◌++◌, length, get_or, ltb}

-- the byte of a digit
abbrev pub digit : ℕ → ℕ
digit d = 48 + d

-- a number below ten is one digit; a larger one is the digits of its tens and then its last digit. The first argument is the most digits given
unfoldable pub digits_within : ℕ → ℕ → List ℕ
digits_within zero n = []
digits_within (suc k) n = cond (ltb n 10) (digit n ∷ []) (digits_within k (n / 10) ++ (digit (n % 10) ∷ []))

-- the digits of n, of which there are at most n + 1
unfoldable pub decimal : ℕ → List ℕ
decimal n = digits_within (suc n) n

-- what digits read as, after others that read as v
abbrev pub read_on : ℕ → List ℕ → ℕ
read_on v [] = v
read_on v (d ∷ ds) = read_on (v * 10 + (d - digit 0)) ds

-- the number's digits: they read as the number, and there is no leading zero
pub record DigitsOf (n : ℕ) (ds : List ℕ) : Type 0 where
  pub are_digits : (i : ℕ) → i < length ds → (digit 0 ≤ get_or ds i 0) × (get_or ds i 0 ≤ digit 9)
  pub reads : read_on 0 ds ≡ n
  pub some : 0 < length ds
  pub no_zero : 1 < length ds → digit 0 < get_or ds 0 0
