-- Ticket 5, the program; docs/LAYOUT.md, "The tables of a heap": all that is written for a text, as one definition.
use Rattle.std.specs.Prelude.{ℕ, ◌+◌, Bool, false, cond, ◌&&◌, List, [], ◌∷◌, ◌++◌, length, drop, leb, ltb, eqb}
use Rattle.refusal.specs.Verdict.{unless}
use Rattle.datom.specs.Fact.{words, aevt_row, avet_row, eavt_row}
use Rattle.text_pieces.specs.Ascii.{ascii}
use Rattle.text_pieces.specs.Decimal.{decimal}
use Rattle.tables.specs.Rows.{flat}
use Rattle.tables_build.specs.Build.{heap_fault, built_rows}
use Rattle.ask_numbers.specs.Words.{said}
use Rattle.ask_lines.specs.Lines.{outside_line, refusal_text, row_lines}
use Rattle.tables_answer.specs.Capacity.{text_bytes, heap_words}

-- a count, and then as many numbers
abbrev pub is_part : List ℕ → Bool
is_part [] = false
is_part (n ∷ ws) = eqb n (length ws)

-- a text holds a heap where it is within the capacities, all of it is in the layout, and its numbers are one part
unfoldable pub holds_heap : List ℕ → Bool
holds_heap text =
    ltb (length text) text_bytes && ((said text).inside && leb (length (said text).words) (1 + heap_words)) && is_part (said text).words

-- the heap: the numbers after the count
abbrev pub heap_in : List ℕ → List ℕ
heap_in text = drop 1 (said text).words

-- a table as a part of a question: how many numbers it has, and its rows, a line each
unfoldable pub table_part : List ℕ → List ℕ
table_part t = decimal (length t) ++ ascii "\n" ++ row_lines words words t

-- the three tables in the order in which a question has them
unfoldable pub table_parts : List ℕ → List ℕ → List ℕ → List ℕ
table_parts aevt avet eavt = table_part aevt ++ table_part avet ++ table_part eavt

-- those of a heap: sorted, repeats dropped
abbrev pub heap_parts : List ℕ → List ℕ
heap_parts h = table_parts (flat (built_rows aevt_row h)) (flat (built_rows avet_row h)) (flat (built_rows eavt_row h))

-- what is written for a heap: its refusal, or its tables
unfoldable pub heap_answer_for : List ℕ → List ℕ
heap_answer_for h = unless (heap_fault (length h) heap_words heap_words heap_words) refusal_text (heap_parts h)

-- all that is written for a text: the answer for its heap; where it holds none, that it is outside the layout
unfoldable pub heap_answer_to : List ℕ → List ℕ
heap_answer_to text = cond (holds_heap text) (heap_answer_for (heap_in text)) outside_line
