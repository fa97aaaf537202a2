-- Laws of what a text says, one byte on.
use mathlib.Core.Path.{◌≡◌}
use mathlib.Core.Bool.{true, false}
use mathlib.Core.List.{List, [], ◌∷◌}
use Prim.Native.Nat.{ℕ, ◌+◌, ◌≤◌, ◌<◌}
use native.Mathlib.Numerals.{add-one}
use lib.ListN.{length, drop, get_or, drop_of_length-le}
use lib.Seq.{drop-cons}
use Rattle.ask_numbers.specs.Words.{space, digit, digit_value, longer, goes_on, said, said_after, end, outside, in_front}

module _ (text : List ℕ) (i : ℕ) where
  -- at the end
  module _ (h : length text ≤ i) where
    pub said-end : said (drop i text) ≡ end
    unfolding said
    said-end = rw (drop_of_length-le text h)

    pub after-end : (v : ℕ) → said_after (drop i text) v ≡ in_front (v ∷ []) (said (drop i text))
    unfolding said
    after-end v = rw (drop_of_length-le text h)

  -- at a byte
  module _ (h : i < length text) where
    pub said-space : space (get_or text i 0) ≡ true → said (drop i text) ≡ said (drop (i + 1) text)
    unfolding said
    said-space s = rw (drop-cons text i 0 h, s, add-one)

    pub said-digit : space (get_or text i 0) ≡ false → digit (get_or text i 0) ≡ true
        → said (drop i text) ≡ said_after (drop (i + 1) text) (digit_value (get_or text i 0))
    unfolding said
    said-digit s d = rw (drop-cons text i 0 h, s, d, add-one)

    pub said-other : space (get_or text i 0) ≡ false → digit (get_or text i 0) ≡ false → said (drop i text) ≡ outside
    unfolding said
    said-other s d = rw (drop-cons text i 0 h, s, d)

    pub after-space : (v : ℕ) → space (get_or text i 0) ≡ true → said_after (drop i text) v ≡ in_front (v ∷ []) (said (drop i text))
    unfolding said
    after-space v s = simp (drop-cons text i 0 h, s)

    pub after_more : (v : ℕ) → space (get_or text i 0) ≡ false → goes_on v (get_or text i 0) ≡ true
        → said_after (drop i text) v ≡ said_after (drop (i + 1) text) (longer v (get_or text i 0))
    unfolding said
    after_more v s g = rw (drop-cons text i 0 h, s, g, add-one)

    pub after-stops : (v : ℕ) → space (get_or text i 0) ≡ false → goes_on v (get_or text i 0) ≡ false → said_after (drop i text) v ≡ outside
    unfolding said
    after-stops v s g = rw (drop-cons text i 0 h, s, g)
