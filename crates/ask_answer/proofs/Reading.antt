-- What is read of a question: how many numbers, case by case, and that they stand in front of the buffer.
use mathlib.Core.Path.{◌≡◌, refl}
use mathlib.Core.Bool.{Bool, true, false, cond, ◌&&◌}
use mathlib.Core.List.{List, [], ◌++◌}
use Prim.Native.Nat.{ℕ, ◌≤◌, ◌<◌}
use native.Mathlib.Omega.{arith}
use borrow.Author.Tests.{leb-true, lt-ltb, le-ltb}
use lib.ListN.{length, take, drop}
use lib.Seq.{take_all, take-append_seam}
use lib.Dec.{leb, ltb}
use Rattle.std.specs.Prelude.{Option, Some, None, unwrap_or}
use Rattle.ask_numbers.specs.Words.{said, read_from, over, read_of, words_after}
use Rattle.ask_answer.specs.Capacity.{text_bytes}
use Rattle.ask_answer.specs.Answer.{is_read}
use Rattle.ask_answer.specs.Parts.{numbers_in, words_read, Reads}

module _ (text words : List ℕ) where
  abbrev numbers : List ℕ
  numbers = (said text).words

  -- a text that is too long is not read
  pub too_long : text_bytes ≤ length text → Reads text words 0 words
  unfolding is_read numbers_in words_read
  too_long h = let long = le-ltb (length text) text_bytes h in record { count_is = rw long refl; words_are = rw long refl }

  -- any other is
  pub reads : length text < text_bytes → (r : Option ℕ) (words' : List ℕ) → r ≡ read_of text (length words) → words' ≡ words_after text words → Reads text words (unwrap_or r 0) words'
  unfolding is_read numbers_in words_read read_from
  reads h r words' e f =
      let short = lt-ltb (length text) text_bytes h in
      record { count_is = rw (short, e) (as_many ((said text).inside && leb (length numbers) (length words))); words_are = rw short f }
    where
      as_many : (b : Bool) → unwrap_or (cond b (Some (length numbers)) None) 0 ≡ length (cond b numbers [])
      as_many true = refl
      as_many false = refl

  -- there is room for the numbers
  few : length (numbers_in text (length words)) ≤ length words
  unfolding is_read numbers_in
  few = by_cases (ltb (length text) text_bytes) (said text).inside (leb (length numbers) (length words)) (leb-true (length numbers) (length words))
    where
      by_cases : (a b c : Bool) → (c ≡ true → length numbers ≤ length words) → length (cond (a && (b && c)) numbers []) ≤ length words
      by_cases true true true h = h refl
      by_cases true true false h = omega arith
      by_cases true false c h = omega arith
      by_cases false b c h = omega arith

  -- they stand in front
  front_in : take (length (numbers_in text (length words))) (words_read text words) ≡ numbers_in text (length words)
  unfolding is_read numbers_in words_read over
  front_in = by_cases (ltb (length text) text_bytes) (said text).inside (leb (length numbers) (length words)) (leb-true (length numbers) (length words))
    where
      by_cases : (a b c : Bool) → (c ≡ true → length numbers ≤ length words)
          → take (length (cond (a && (b && c)) numbers [])) (cond a (take (length words) numbers ++ drop (length numbers) words) words) ≡ cond (a && (b && c)) numbers []
      by_cases true true true h = rw (take_all (length words) numbers (h refl)) (take-append_seam numbers (drop (length numbers) words))
      by_cases true true false h = refl
      by_cases true false c h = refl
      by_cases false b c h = refl

module _ {text words words' : List ℕ} {count : ℕ} (r : Reads text words count words') where
  pub count-within : count ≤ length words
  count-within = rw r.count_is (few text words)

  pub numbers-read : take count words' ≡ numbers_in text (length words)
  numbers-read = rw (r.count_is, r.words_are) (front_in text words)
