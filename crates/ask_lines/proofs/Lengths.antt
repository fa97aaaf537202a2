-- How long the program's lines can be: a word has at most 20 digits.
use mathlib.Core.Path.{◌≡◌, refl}
use mathlib.Core.Logic.{⊎_elim}
use mathlib.Core.Bool.{Bool, true, false, cond}
use mathlib.Core.List.{List, [], ◌∷◌}
use Prim.Native.Nat.{ℕ, zero, suc, ◌+◌, ◌*◌, ◌/◌, ◌%◌, ◌^◌, ◌≤◌, ◌<◌, min}
use native.Mathlib.Nat.{min-le_left, eq-or-lt_of_le}
use native.Mathlib.Omega.{arith}
use lib.ListN.{length, take, get_or, length-append}
use lib.Dec.{leb}
use Rattle.text_pieces.specs.Ascii.{ascii}
use Rattle.text_pieces.specs.Decimal.{digit, decimal}
use Rattle.text_pieces.proofs.Decimal.{decimal-one, decimal-more}
use Rattle.ask_lines.specs.Lines.{refusal_line, cost_line, word_text, left_after, row_lines}

-- a number below 10 ^ (k + 1) has at most k + 1 digits
pub decimal-short : (k n : ℕ) → n < 10 ^ suc k → length (decimal n) ≤ suc k
decimal-short zero n h = rw (decimal-one n (omega arith)) (omega arith)
decimal-short (suc k) n h =
    ⊎_elim (λ (small : min n 9 ≡ n). rw (decimal-one n (omega arith)) (omega arith))
    (λ (big : min n 9 < n).
    let tens : length (decimal (n / 10)) ≤ suc k = decimal-short k (n / 10) (omega arith) in
    rw (decimal-more n (omega arith), length-append (decimal (n / 10)) (digit (n % 10) ∷ [])) (omega arith)) (eq-or-lt_of_le (min-le_left n 9))

-- the digits of a word
abbrev pub word_digits : ℕ
word_digits = 20

pub word-short : (n : ℕ) → n < 2 ^ 64 → length (decimal n) ≤ word_digits
word-short n h = decimal-short 19 n (omega arith)

module _ (number place : ℕ) (byte : number < 2 ^ 8) (word : place < 2 ^ 64) where
  pub refusal-short : length (refusal_line number place) ≤ 16 + word_digits
  unfolding refusal_line
  refusal-short =
      let a = decimal-short 2 number (omega arith) in
      let b = word-short place word in
      simp length-append (omega arith)

pub cost-short : (cost : ℕ) → cost < 2 ^ 64 → length (cost_line cost) ≤ 7 + word_digits
unfolding cost_line
cost-short cost h = let a = word-short cost h in simp length-append (omega arith)

-- the text of a word of a row: one byte separates it from what follows
pub word-text-short : (word left : ℕ) → word < 2 ^ 64 → length (word_text word left) ≤ word_digits + 1
unfolding word_text
word-text-short word left h =
    let a = word-short word h in
    let b : length (cond (leb left 1) (ascii "\n") (ascii " ")) ≡ 1 = one_byte (leb left 1) in
    simp length-append (omega arith)
  where
    one_byte : (t : Bool) → length (cond t (ascii "\n") (ascii " ")) ≡ 1
    one_byte true = refl
    one_byte false = refl

-- the lines of the first words of some
pub rows_short : (n width left : ℕ) (words : List ℕ) → ((i : ℕ) → get_or words i 0 < 2 ^ 64) → length (row_lines width left (take n words)) ≤ (word_digits + 1) * length words
unfolding row_lines
rows_short zero width left words h = omega arith
rows_short (suc n) width left [] h = omega arith
rows_short (suc n) width left (w ∷ words) h =
    let a = word-text-short w left (h 0) in
    let b = rows_short n width (left_after left width) words (λ i. h (suc i)) in
    omega (arith, length-append (word_text w left) (row_lines width (left_after left width) (take n words)))
