-- docs/LAYOUT.md, "What it writes": the line for input outside the layout, a refusal, the cost, and rows.
use Rattle.refusal.specs.Verdict.{number_in}
use Rattle.std.specs.Prelude.{ℕ, ◌-◌, cond, List, [], ◌∷◌, ◌++◌, leb}
use Rattle.refusal.specs.Verdict.{Verdict, number_in}
use Rattle.std.specs.Prelude.{Ok, Err}
use Rattle.text_pieces.specs.Ascii.{ascii}
use Rattle.text_pieces.specs.Decimal.{decimal}

-- input outside the layout
abbrev pub outside_line : List ℕ
outside_line = ascii "outside the layout\n"

-- a refusal is its number and its place
unfoldable pub refusal_line : ℕ → ℕ → List ℕ
refusal_line number place = ascii "refused " ++ decimal number ++ ascii " at " ++ decimal place ++ ascii "\n"

-- of a verdict: its refusal, alone
abbrev pub refusal_text : Verdict → List ℕ
refusal_text (Ok tt) = []
refusal_text (Err r) = refusal_line (number_in r.rule) r.place

-- the cost stands on a line of its own, after the last line of the plan text
unfoldable pub cost_line : ℕ → List ℕ
cost_line cost = ascii "\ncost " ++ decimal cost ++ ascii "\n"

-- a word of a row, and how many words of the row are left with it: a line feed follows the last, a space every other
unfoldable pub word_text : ℕ → ℕ → List ℕ
word_text word left = decimal word ++ cond (leb left 1) (ascii "\n") (ascii " ")

-- the longest text of a word: its digits, and a space or a line feed
abbrev pub word_bytes : ℕ
word_bytes = 21

-- how many words of a row are left after one
unfoldable pub left_after : ℕ → ℕ → ℕ
left_after left width = cond (leb left 1) width (left - 1)

-- rows of `width` words, a line each; of the first row `left` words are left
unfoldable pub row_lines : ℕ → ℕ → List ℕ → List ℕ
row_lines width left [] = []
row_lines width left (w ∷ ws) = word_text w left ++ row_lines width (left_after left width) ws
