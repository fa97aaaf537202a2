-- What is written is read again: a number, rows, and three tables as parts of a question.
use mathlib.Core.Path.{◌≡◌, refl, ◌∙◌}
use mathlib.Core.Bool.{Bool, true, false, cond}
use mathlib.Core.List.{List, [], ◌∷◌, ◌++◌, append-nil, append_assoc}
use Prim.Native.Nat.{ℕ, suc, ◌+◌, ◌-◌, ◌*◌, ◌^◌, ◌≤◌, ◌<◌}
use native.Mathlib.Omega.{arith}
use borrow.Author.Tests.{lt-ltb, le-leb, ne_eqb}
use lib.ListN.{length, get_or}
use lib.Dec.{leb}
use Rattle.datom.specs.Fact.{words}
use Rattle.text_pieces.specs.Decimal.{decimal, read_on, DigitsOf}
use Rattle.text_pieces.specs.Decimal.{digit as digitByte}
use Rattle.text_pieces.proofs.Digits.{decimal-digits}
use Rattle.ask_numbers.specs.Words.{space, digit, digit_value, longer, goes_on, end, in_front, said, said_after}
use Rattle.ask_lines.specs.Lines.{word_text, left_after, row_lines}
use Rattle.tables_answer.specs.Answer.{table_part, table_parts}
use Rattle.tables_answer.proofs.Words.{Words}

-- each byte is that of a digit
abbrev Digits : List ℕ → Type 0
Digits ds = (i : ℕ) → i < length ds → (digitByte 0 ≤ get_or ds i 0) × (get_or ds i 0 ≤ digitByte 9)

-- more digits make no smaller number
grows : (ds : List ℕ) (v : ℕ) → v ≤ read_on v ds
grows [] v = omega arith
grows (d ∷ ds) v = omega (arith, grows ds (v * 10 + (d - digitByte 0)))

not-space : (d : ℕ) → digitByte 0 ≤ d → space d ≡ false
unfolding space
not-space d h = rw (ne_eqb d 9 (λ e. omega arith), ne_eqb d 10 (λ e. omega arith), ne_eqb d 13 (λ e. omega arith), ne_eqb d 32 (λ e. omega arith)) refl

is_digit : (d : ℕ) → digitByte 0 ≤ d → d ≤ digitByte 9 → digit d ≡ true
unfolding digit
is_digit d h k = rw (le-leb (digitByte 0) d h, le-leb d (digitByte 9) k) refl

below : (a b m : ℕ) → a ≤ b → b < m → a < m
below a b m h k = omega arith

-- digits after others, and a byte that separates
after-digits : (ds : List ℕ) (v b : ℕ) (rest : List ℕ) → Digits ds → (0 < length ds → 0 < v) → read_on v ds < 2 ^ 64 → space b ≡ true
    → said_after (ds ++ (b ∷ rest)) v ≡ in_front (read_on v ds ∷ []) (said rest)
unfolding said goes_on
after-digits [] v b rest h p l s = rw s refl
after-digits (d ∷ ds) v b rest h p l s =
    let low = (h 0 (omega arith)).0 in
    let high = (h 0 (omega arith)).1 in
    let positive = p (omega arith) in
    let small = below (longer v d) (read_on (longer v d) ds) (2 ^ 64) (grows ds (longer v d)) l in
    rw (not-space d low, is_digit d low high, lt-ltb 0 v positive, lt-ltb (longer v d) (2 ^ 64) small)
    (after-digits ds (longer v d) b rest (λ i k. h (suc i) (omega arith)) (λ _. omega arith) l s)

-- a number that was written, and a byte that separates
number-said : (n b : ℕ) (rest : List ℕ) → n < 2 ^ 64 → space b ≡ true → said (decimal n ++ (b ∷ rest)) ≡ in_front (n ∷ []) (said rest)
unfolding said
number-said n b rest l s = go (decimal n) (decimal-digits n)
  where
    go : (ds : List ℕ) → DigitsOf n ds → said (ds ++ (b ∷ rest)) ≡ in_front (n ∷ []) (said rest)
    go [] g = absurd (let z : 0 < 0 = g.some in omega arith)
    go (d ∷ ds) g =
        let low = (g.are_digits 0 (omega arith)).0 in
        let high = (g.are_digits 0 (omega arith)).1 in
        let first : 0 * 10 + (d - digitByte 0) ≡ digit_value d = omega arith in
        let reads : read_on (digit_value d) ds ≡ n = rw first at g.reads in
        rw (not-space d low, is_digit d low high)
        (after-digits ds (digit_value d) b rest (λ i k. g.are_digits (suc i) (omega arith)) (λ k. let z = g.no_zero (omega arith) in omega arith) (rw reads l) s ∙ rw reads refl)

rows-said : (width left : ℕ) (t rest : List ℕ) → Words t → said (row_lines width left t ++ rest) ≡ in_front t (said rest)
unfolding row_lines word_text space
rows-said width left [] rest h = refl
rows-said width left (w ∷ t) rest h =
    let later = row_lines width (left_after left width) t ++ rest in
    let on = rows-said width (left_after left width) t rest (λ i. h (suc i)) in
    rw (append_assoc, append_assoc) (separated (leb left 1) later ∙ rw on refl)
  where
    separated : (b : Bool) (later : List ℕ) → said (decimal w ++ (cond b (10 ∷ []) (32 ∷ []) ++ later)) ≡ in_front (w ∷ []) (said later)
    separated true later = number-said w 10 later (h 0) refl
    separated false later = number-said w 32 later (h 0) refl

part-said : (t rest : List ℕ) → length t < 2 ^ 64 → Words t → said (table_part t ++ rest) ≡ in_front (length t ∷ t) (said rest)
unfolding table_part space
part-said t rest l h = rw (append_assoc, append_assoc) (number-said (length t) 10 (row_lines words words t ++ rest) l refl ∙ rw (rows-said words words t rest h) refl)

module _ (a b c : List ℕ) (la : length a < 2 ^ 64) (lb : length b < 2 ^ 64) (lc : length c < 2 ^ 64) (wa : Words a) (wb : Words b) (wc : Words c) where
  -- the parts of a question: a count and as many numbers, three times
  pub parts_said : said (table_parts a b c) ≡ record { inside = true; words = length a ∷ (a ++ (length b ∷ (b ++ (length c ∷ c)))) }
  unfolding table_parts said
  parts_said =
      let last : said (table_part c ++ []) ≡ in_front (length c ∷ c) end = part-said c [] lc wc in
      let last' : said (table_part c) ≡ record { inside = true; words = length c ∷ c } = rw (append-nil, append-nil) at last in
      rw append_assoc (part-said a (table_part b ++ table_part c) la wa ∙ rw (part-said b (table_part c) lb wb, last') refl)
