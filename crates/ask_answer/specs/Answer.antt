-- docs/LAYOUT.md: all that the program writes for a text, as one definition.
use Rattle.std.specs.Prelude.{ℕ, ◌-◌, ◌^◌, min, Bool, cond, ◌&&◌, List, [], ◌++◌, length, get_or, leb, ltb}
use Rattle.ask_numbers.specs.Words.{said}
use Rattle.ask_opening.specs.Question.{tables_in}
use Rattle.ask_opening.specs.Opening.{outside, opening_of}
use Rattle.ask_rows.specs.Windows.{rows_text}
use Rattle.ask_answer.specs.Capacity.{text_bytes, word_count}

-- "Numbers", "The program's capacities": a text is read where it is shorter than `text_bytes`, all of it is in the layout, and there is room
-- for its numbers
unfoldable pub is_read : List ℕ → ℕ → Bool
is_read text room = ltb (length text) text_bytes && ((said text).inside && leb (length (said text).words) room)

-- the header's third number is that of the first row to show
abbrev pub first_row : List ℕ → ℕ
first_row ws = get_or ws 2 0

-- its fourth says how many rows to show at most; a row's number is below 2^64, and rows past that are not shown
unfoldable pub rows_asked : List ℕ → ℕ
rows_asked ws = min (get_or ws 3 0) (2 ^ 64 - first_row ws)

-- "What it writes": what is said of the numbers, and where rows follow those that are asked for, over the tables
unfoldable pub answer_for : List ℕ → List ℕ
answer_for ws =
    let s = opening_of ws text_bytes in
    s.text ++ cond s.rows (rows_text s.plan (tables_in ws) (first_row ws) (rows_asked ws)) []

-- all that is written for a text: the answer for its numbers; where it is not read, that it is outside the layout
unfoldable pub answer_to : List ℕ → List ℕ
answer_to text = cond (is_read text word_count) (answer_for (said text).words) outside.text
