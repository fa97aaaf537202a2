-- The answer is handed over in parts: what the functions of this crate promise of each.
use Rattle.std.specs.Prelude.{◌≡◌, ℕ, ◌+◌, ◌*◌, ◌≤◌, cond, Option, Some, None, Result, Ok, Err, List, [], length, ltb}
use Rattle.std.specs.Option.{option_map}
use Rattle.refusal.specs.Verdict.{Refusal, answer}
use Rattle.std.proofs.lemmas.List.Edits.{sets}
use Rattle.ask_numbers.specs.Words.{said, words_after}
use Rattle.plan.specs.declared.Plan.{Plan}
use Rattle.text_pieces.specs.Written.{after}
use Rattle.ask_opening.specs.Question.{tables_in}
use Rattle.ask_opening.specs.Opening.{line_bytes, plan_shown, opening_of}
use Rattle.ask_rows.specs.Answered.{Window}
use Rattle.ask_lines.specs.Lines.{word_bytes}
use Rattle.ask_rows.specs.Windows.{last_bytes, window_of, rows_after, out_after}
use Rattle.ask_answer.specs.declared.Following.{Following}
use Rattle.ask_answer.specs.declared.Part.{Part}
use Rattle.ask_answer.specs.Capacity.{text_bytes}
use Rattle.ask_answer.specs.Answer.{is_read, first_row, rows_asked}

-- the numbers of a text, for a buffer of `room` words; none where it is not read
unfoldable pub numbers_in : List ℕ → ℕ → List ℕ
numbers_in text room = cond (is_read text room) (said text).words []

-- the buffer after it; as it was where the text is too long
unfoldable pub words_read : List ℕ → List ℕ → List ℕ
words_read text words = cond (ltb (length text) text_bytes) (words_after text words) words

-- a question is read: how many numbers it has, and the buffer for them
pub record Reads (text words : List ℕ) (count : ℕ) (words' : List ℕ) : Type 0 where
  pub count_is : count ≡ length (numbers_in text (length words))
  pub words_are : words' ≡ words_read text words

-- the first part of the answer is what is said of the numbers, for a buffer of `room` bytes. It is the last where no rows follow; else those
-- that are asked for are left to show
unfoldable pub first_part : List ℕ → ℕ → Part
first_part ws room =
    record {
      length = after 0 (length (opening_of ws room).text);
      following = option_map (λ plan. record { plan = plan; from = first_row ws; left = rows_asked ws }) (plan_shown (opening_of ws room));
    }

-- the rows that follow a window of a plan's, unless it is the last
abbrev pub following_of : Plan → Window → Option Following
following_of plan w = cond w.last None (Some (record { plan = plan; from = w.from; left = w.left }))

-- a window of a plan's rows as a part, or the refusal of evaluation
abbrev pub part_of : Plan → Window → Result Part Refusal
part_of plan w = answer w.verdict (record { length = w.length; following = following_of plan w })

-- what follows a part is the next window of the rows of its plan, over the tables
unfoldable pub next_part : List ℕ → Following → ℕ → Result Part Refusal
next_part ws f room = part_of f.plan (window_of f.plan (tables_in ws) f.from f.left room)

-- how many bytes a part has; none where it is refused
abbrev pub bytes_in : Result Part Refusal → ℕ
bytes_in (Ok p) = p.length
bytes_in (Err r) = 0

-- the first part stands in front of the buffer for bytes. It lies within a buffer that has room for a refusal
pub record Begins (ws out : List ℕ) (r : Part) (out' : List ℕ) : Type 0 where
  pub part_is : r ≡ first_part ws (length out)
  pub out_is : out' ≡ sets out 0 (opening_of ws (length out)).text
  pub fits : line_bytes ≤ length out → r.length ≤ length out

-- the next part does, and its rows in front of the buffer for them. It fits where the buffer for bytes has room for as many words, each as long as
-- can be, as the buffer for rows has, and for the last line
pub record GoesOn (ws : List ℕ) (f : Following) (rows out : List ℕ) (r : Result Part Refusal) (rows' out' : List ℕ) : Type 0 where
  pub part_is : r ≡ next_part ws f (length rows)
  pub rows_are : rows' ≡ rows_after f.plan (tables_in ws) f.from f.left rows
  pub out_is : out' ≡ out_after f.plan (tables_in ws) f.from f.left (length rows) out
  pub fits : word_bytes * length rows + last_bytes ≤ length out → bytes_in r ≤ length out
