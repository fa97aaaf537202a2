-- What the private functions of reading promise: what each step leaves to be read.
use Rattle.std.specs.Prelude.{◌≡◌, ℕ, ◌+◌, ◌≤◌, ◌<◌, false, Option, MatchOption, List, [], ◌∷◌, length, drop, get_or}
use Rattle.ask_numbers.specs.declared.Number.{Number}
use Rattle.ask_numbers.specs.Words.{Said, space, said, said_after, in_front, outside}

-- spaces were passed over, up to r
pub record Skipped (text : List ℕ) (start r : ℕ) : Type 0 where
  pub onward : start ≤ r
  pub within : r ≤ length text
  pub same : said (drop start text) ≡ said (drop r text)
  pub stops : r < length text → space (get_or text r 0) ≡ false

-- a number was read, and the rest of the text begins at its `next`
pub record Reads (text : List ℕ) (s : Said) (start : ℕ) (n : Number) : Type 0 where
  pub onward : start ≤ n.next
  pub within : n.next ≤ length text
  pub reads : s ≡ in_front (n.value ∷ []) (said (drop n.next text))

-- or the text is outside the layout
abbrev pub NumberFrom : List ℕ → ℕ → Option Number → Type 0
NumberFrom text start result =
    let s = said (drop start text) in MatchOption result (s ≡ outside) (λ n. Reads text s (start + 1) n)

abbrev pub DigitsFrom : List ℕ → ℕ → ℕ → Option Number → Type 0
DigitsFrom text start first result =
    let s = said_after (drop start text) first in MatchOption result (s ≡ outside) (λ n. Reads text s start n)
