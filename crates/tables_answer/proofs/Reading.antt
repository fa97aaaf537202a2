-- What is read of a text: a heap stands behind its count in front of the buffer, or there is none.
use mathlib.Core.Path.{◌≡◌, refl, sym, ap, ◌∙◌}
use mathlib.Core.Bool.{Bool, true, false, cond, ◌&&◌, false≢true}
use mathlib.Core.List.{List, [], ◌∷◌, ◌++◌}
use Prim.Native.Nat.{ℕ, ◌+◌, ◌≤◌, ◌<◌}
use native.Mathlib.Omega.{arith}
use borrow.Author.Tests.{leb-true, lt-ltb, le-ltb}
use lib.ListN.{length, take, drop, length-append}
use lib.Seq.{take_all, take_at}
use lib.Dec.{leb, eqb}
use Rattle.std.specs.Prelude.{Some, None}
use Rattle.ask_numbers.specs.Words.{said, read_from, over, read_of, words_after}
use Rattle.tables_answer.specs.Capacity.{text_bytes, heap_words}
use Rattle.tables_answer.specs.Answer.{is_part, holds_heap, heap_in}

-- a text that is too long
pub too_long : (text : List ℕ) → text_bytes ≤ length text → holds_heap text ≡ false
unfolding holds_heap
too_long text h = rw (le-ltb (length text) text_bytes h) refl

abbrev numbers : List ℕ → List ℕ
numbers text = (said text).words

-- whether they are read
abbrev fits : List ℕ → Bool
fits text = (said text).inside && leb (length (numbers text)) (1 + heap_words)

not-read : (b : Bool) (ws : List ℕ) → None ≡ cond b (Some (length ws)) None → (b && is_part ws) ≡ false
not-read true ws e = absurd (let z : ◌≡◌ {A = ℕ} 0 1 = cc in omega arith)
not-read false ws e = refl

all-read : (b : Bool) (ws : List ℕ) (n : ℕ) → Some n ≡ cond b (Some (length ws)) None → (b ≡ true) × (n ≡ length ws)
all-read true ws n e = (refl, cc)
all-read false ws n e = absurd (let z : ◌≡◌ {A = ℕ} 0 1 = cc in omega arith)

no-part : (ws : List ℕ) → length ws ≡ 0 → is_part ws ≡ false
no-part [] e = refl
no-part (n ∷ ws) e = absurd (omega arith)

module _ (text words : List ℕ) (short : length text < text_bytes) (room : length words ≡ 1 + heap_words) where
  holds : holds_heap text ≡ (fits text && is_part (numbers text))
  unfolding holds_heap
  holds = rw (lt-ltb (length text) text_bytes short) refl

  pub no-heap : None ≡ read_of text (length words) → holds_heap text ≡ false
  unfolding read_from
  no-heap e = holds ∙ not-read (fits text) (numbers text) (rw room at e)

  module _ {words' : List ℕ} {count : ℕ} (e : Some count ≡ read_of text (length words)) (f : words' ≡ words_after text words) where
    read : (fits text ≡ true) × (count ≡ length (numbers text))
    unfolding read_from
    read = all-read (fits text) (numbers text) count (rw room at e)

    few : length (numbers text) ≤ 1 + heap_words
    few = go (said text).inside read.0
      where
        go : (b : Bool) → (b && leb (length (numbers text)) (1 + heap_words)) ≡ true → length (numbers text) ≤ 1 + heap_words
        go true g = leb-true (length (numbers text)) (1 + heap_words) g
        go false g = absurd (false≢true g)

    front_is : words' ≡ numbers text ++ drop (length (numbers text)) words
    unfolding over
    front_is = f ∙ rw (take_all (length words) (numbers text) (rw room few)) refl

    pub count_fits : count ≤ length words'
    count_fits = rw front_is (omega (arith, read.1, length-append (numbers text) (drop (length (numbers text)) words)))

    front : take count words' ≡ numbers text
    front = rw front_is (take_at (numbers text) (drop (length (numbers text)) words) count (sym read.1))

    pub none-read : length (take count words') ≡ 0 → holds_heap text ≡ false
    none-read z = holds ∙ ap (λ (b : Bool). b && is_part (numbers text)) read.0 ∙ no-part (numbers text) (rw front at z)

    pub part-read : {x : ℕ} {rest : List ℕ} → take count words' ≡ x ∷ rest → (holds_heap text ≡ eqb x (length rest)) × (rest ≡ heap_in text)
    part-read p =
        let e = sym front ∙ p in
        (holds ∙ ap (λ (b : Bool). b && is_part (numbers text)) read.0 ∙ ap is_part e, sym (ap (drop 1) e))
