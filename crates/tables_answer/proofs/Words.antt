-- The numbers of a text are words, and so are those of the tables of its heap.
use mathlib.Core.Path.{◌≡◌, refl, sym, ◌∙◌}
use mathlib.Core.Bool.{Bool, true, false, cond, ◌&&◌}
use mathlib.Core.List.{List, [], ◌∷◌, ◌++◌, map}
use Prim.Native.Nat.{ℕ, zero, suc, ◌*◌, ◌^◌, ◌<◌}
use native.Mathlib.Omega.{arith}
use borrow.Author.Tests.{ltb-true, leb-true}
use lib.ListN.{length, get_or, take, drop}
use lib.Dec.{leb, ltb}
use Rattle.lists.specs.Span.{span}
use Rattle.datom.specs.Fact.{Fact, words}
use Rattle.tables.specs.Rows.{count, row, flat}
use Rattle.tables.specs.Check.{is_among}
use Rattle.tables.proofs.Order.{both, no-yes}
use Rattle.tables_sort.proofs.Rising.{among_cases, among_first, among_later}
use Rattle.tables_sort.proofs.Sorted.{sorted-holds}
use Rattle.tables_build.specs.Build.{heap_fact, heap_rows, built_rows}
use Rattle.tables_build.proofs.Answers.{heap-even}
use Rattle.text_pieces.specs.Decimal.{digit as digitByte}
use Rattle.ask_numbers.specs.Words.{space, digit, digit_value, longer, goes_on, outside, in_front, said, said_after}

-- each is a word
abbrev pub Words : List ℕ → Type 0
Words t = (i : ℕ) → get_or t i 0 < 2 ^ 64

-- what reading takes for a number is a word
digit-word : (b : ℕ) → digit b ≡ true → digit_value b < 2 ^ 64
unfolding digit
digit-word b e = let h = leb-true b (digitByte 9) (both (leb (digitByte 0) b) (leb b (digitByte 9)) e).1 in omega arith

longer-word : (v b : ℕ) → goes_on v b ≡ true → longer v b < 2 ^ 64
unfolding goes_on
longer-word v b e = ltb-true (longer v b) (2 ^ 64) (both (ltb 0 v) (ltb (longer v b) (2 ^ 64)) (both (digit b) (ltb 0 v && ltb (longer v b) (2 ^ 64)) e).1).1

-- the numbers of a text are words
words-first : (v : ℕ) (t : List ℕ) → v < 2 ^ 64 → Words t → Words (v ∷ t)
words-first v t l h zero = l
words-first v t l h (suc i) = h i

words-none : Words []
words-none i = omega arith

mutual
  unfolding said

  pub said-words : (text : List ℕ) → Words (said text).words
  said-words [] = words-none
  said-words (b ∷ bs) = by_cases (space b) (digit b) refl (said-words bs) (λ l. after-words bs (digit_value b) l)
    where
      by_cases : (s d : Bool) → digit b ≡ d → Words (said bs).words → (digit_value b < 2 ^ 64 → Words (said_after bs (digit_value b)).words)
          → Words (cond s (said bs) (cond d (said_after bs (digit_value b)) outside)).words
      by_cases true d e h k = h
      by_cases false true e h k = k (digit-word b e)
      by_cases false false e h k = words-none

  after-words : (bs : List ℕ) (v : ℕ) → v < 2 ^ 64 → Words (said_after bs v).words
  after-words [] v l = words-first v [] l words-none
  after-words (b ∷ bs) v l = by_cases (space b) (goes_on v b) refl (said-words bs) (λ k. after-words bs (longer v b) k)
    where
      by_cases : (s g : Bool) → goes_on v b ≡ g → Words (said bs).words → (longer v b < 2 ^ 64 → Words (said_after bs (longer v b)).words)
          → Words (cond s (in_front (v ∷ []) (said bs)) (cond g (said_after bs (longer v b)) outside)).words
      by_cases true g e h k = words-first v (said bs).words l h
      by_cases false true e h k = k (longer-word v b e)
      by_cases false false e h k = words-none

-- words taken from words
words_append : (a b : List ℕ) → Words a → Words b → Words (a ++ b)
words_append [] b h k = k
words_append (x ∷ a) b h k = words-first x (a ++ b) (h 0) (words_append a b (λ i. h (suc i)) k)

pub words-drop : (n : ℕ) (t : List ℕ) → Words t → Words (drop n t)
words-drop zero t h = h
words-drop (suc n) [] h = words-none
words-drop (suc n) (x ∷ t) h = words-drop n t (λ i. h (suc i))

words_take : (n : ℕ) (t : List ℕ) → Words t → Words (take n t)
words_take zero t h = words-none
words_take (suc n) [] h = words-none
words_take (suc n) (x ∷ t) h = words-first x (take n t) (h 0) (words_take n t (λ i. h (suc i)))

words-flat : (rows : List (List ℕ)) → ((z : List ℕ) → is_among z rows ≡ true → Words z) → Words (flat rows)
unfolding flat
words-flat [] h = words-none
words-flat (r ∷ rs) h = words_append r (flat rs) (h r (among_first r rs)) (words-flat rs (λ z m. h z (among_later z r rs m)))

words-map : (f : ℕ → List ℕ) → ((i : ℕ) → Words (f i)) → (l : List ℕ) (z : List ℕ) → is_among z (map f l) ≡ true → Words z
unfolding is_among
words-map f k [] z m = no-yes refl m
words-map f k (i ∷ l) z m = among_cases z (f i) (map f l) m (λ e. rw e (k i)) (words-map f k l z)

-- a table of a heap of words is made of words, and no longer than the heap
module _ (h : List ℕ) (w : Words h) (lie : Fact → List ℕ) (long : (f : Fact) → length (lie f) ≡ words) (lies : (f : Fact) → f.entity < 2 ^ 64 → f.attribute < 2 ^ 64 → f.value < 2 ^ 64 → Words (lie f)) where
  row_words : (i : ℕ) → Words (lie (heap_fact (row h i)))
  unfolding row
  row_words i =
      let r = words_take words (drop (words * i) h) (words-drop (words * i) h w) in
      lies (heap_fact (row h i)) (r 0) (r 1) (r 2)

  pub built-words : Words (flat (built_rows lie h))
  built-words =
      words-flat (built_rows lie h)
      (λ z m. words-map (λ i. lie (heap_fact (row h i))) row_words (span 0 (count h)) z (sym (sorted-holds words (heap_rows lie h) (heap-even lie long h) z) ∙ m))

pub three : (x y z : ℕ) → x < 2 ^ 64 → y < 2 ^ 64 → z < 2 ^ 64 → Words (x ∷ y ∷ z ∷ [])
three x y z h k l = words-first x (y ∷ z ∷ []) h (words-first y (z ∷ []) k (words-first z [] l words-none))
