-- docs/LAYOUT.md, "What it writes": the rows, window by window, and whether more follow.
use Rattle.std.specs.Prelude.{Result, Err}
use Rattle.eval.specs.declared.rows.Shown.{Shown}
use Rattle.ask_rows.specs.declared.Window.{Window as Said}
use Rattle.std.specs.Prelude.{◌≡◌, ℕ, zero, suc, ◌+◌, ◌-◌, ◌*◌, ◌/◌, ◌≤◌, min, Bool, true, false, cond, not, ◌||◌, List, [], ◌++◌, length, take, drop, leb, ltb, eqb}
use Rattle.std.proofs.lemmas.List.Edits.{sets}
use Rattle.refusal.specs.Verdict.{Refusal, Verdict}
use Rattle.std.specs.Prelude.{Ok}
use Rattle.refusal.specs.Verdict.{unless}
use Rattle.plan.specs.declared.Plan.{Plan}
use Rattle.text_pieces.specs.Ascii.{ascii}
use Rattle.text_pieces.specs.Written.{largest, after}
use Rattle.ask_lines.specs.Lines.{row_lines, word_bytes}
use Rattle.tables.specs.Rows.{flat}
use Rattle.visits.specs.Visits.{Tables, row_list}
use Rattle.visits.specs.Window.{filled}
use Rattle.eval.specs.Answered.{Evaluated}
use Rattle.eval.specs.Evaluation.{evaluation_fault}
use Rattle.ask_rows.specs.declared.Step.{Step}
use Rattle.ask_rows.specs.Answered.{Window}

-- the lines of rows of `width` words
unfoldable pub lines_of : ℕ → List (List ℕ) → List ℕ
lines_of width rows = row_lines width width (flat rows)

-- the line after the last row says whether the row list goes on
unfoldable pub last_line : Bool → List ℕ
last_line more = cond more (ascii "more follow\n") (ascii "none follows\n")

-- all that is written of the rows from number `from` on, of which at most `left` are shown
unfoldable pub rows_text : Plan → Tables → ℕ → ℕ → List ℕ
rows_text p ts from left =
    lines_of p.select_count (take left (drop from (row_list p ts))) ++ last_line (ltb left (length (drop from (row_list p ts))))

-- a window shows as many of these rows as a buffer of `room` words holds
unfoldable pub shown_of : Plan → Tables → ℕ → ℕ → ℕ → List (List ℕ)
shown_of p ts from left room = take (min left (room / p.select_count)) (drop from (row_list p ts))

-- the row list goes on after them
unfoldable pub more_of : Plan → Tables → ℕ → ℕ → ℕ → Bool
more_of p ts from left room = ltb (length (shown_of p ts from left room)) (length (drop from (row_list p ts)))

-- it is the last window where the row list does not go on, where all that were to be shown are shown, where no row fits, or where the
-- next row's number would pass 2^64 - 1
unfoldable pub is_last : Bool → ℕ → ℕ → ℕ → Bool
is_last more count from left = not more || (leb left count || (eqb count 0 || ltb (largest - from) count))

-- the next window begins after the rows shown; after the last there is none
unfoldable pub step_of : Bool → ℕ → ℕ → ℕ → Step
step_of more count from left =
    cond (is_last more count from left) (record { last = true; from = from; left = left }) (record { last = false; from = from + count; left = left - count })

abbrev pub window_step : Plan → Tables → ℕ → ℕ → ℕ → Step
window_step p ts from left room = step_of (more_of p ts from left room) (length (shown_of p ts from left room)) from left

-- the last line stands after the last window
abbrev pub end_text : Bool → Bool → List ℕ
end_text last more = cond last (last_line more) []

-- what is written of a window
unfoldable pub window_text : Plan → Tables → ℕ → ℕ → ℕ → List ℕ
window_text p ts from left room =
    lines_of p.select_count (shown_of p ts from left room) ++ end_text (window_step p ts from left room).last (more_of p ts from left room)

-- the windows' texts one after the other, until the last; at most n of them
unfoldable pub windows_text : ℕ → Plan → Tables → ℕ → ℕ → ℕ → List ℕ
windows_text zero p ts from left room = []
windows_text (suc n) p ts from left room =
    window_text p ts from left room
    ++ cond (window_step p ts from left room).last [] (windows_text n p ts (window_step p ts from left room).from (window_step p ts from left room).left room)

-- the longest last line
abbrev pub last_bytes : ℕ
last_bytes = 13

-- where evaluation is refused the answer is the verdict, and no window follows
abbrev pub refused_window : Verdict → Window
refused_window v = record { verdict = v; length = 0; last = true; from = 0; left = 0 }

-- else how many bytes are written, whether the window is the last, and how the next begins
abbrev pub shown_window : Plan → Tables → ℕ → ℕ → ℕ → Window
shown_window p ts from left room =
    record {
      verdict = Ok tt;
      length = after 0 (length (window_text p ts from left room));
      last = (window_step p ts from left room).last;
      from = (window_step p ts from left room).from;
      left = (window_step p ts from left room).left;
    }

-- the answer for a window
unfoldable pub window_of : Plan → Tables → ℕ → ℕ → ℕ → Window
window_of p ts from left room = unless (evaluation_fault p ts) refused_window (shown_window p ts from left room)

-- the buffer for rows after it: the rows that are shown, and the words past them as they were; refused, as it was
unfoldable pub rows_after : Plan → Tables → ℕ → ℕ → List ℕ → List ℕ
rows_after p ts from left rows = unless (evaluation_fault p ts) (λ v. rows) (filled (shown_of p ts from left (length rows)) rows)

-- the buffer for bytes after it: the window's text, and the bytes past it as they were; refused, as it was
unfoldable pub out_after : Plan → Tables → ℕ → ℕ → ℕ → List ℕ → List ℕ
out_after p ts from left room out = unless (evaluation_fault p ts) (λ v. out) (sets out 0 (window_text p ts from left room))

-- what evaluation answers for a window that it does not refuse, and its rows in front of the buffer for them
pub record Front (p : Plan) (ts : Tables) (from left : ℕ) (rows : List ℕ) (r : Evaluated) (rows' : List ℕ) : Type 0 where
  pub count_is : r.count ≡ length (shown_of p ts from left (length rows))
  pub more_is : r.more ≡ more_of p ts from left (length rows)
  pub words_are : take (r.count * p.select_count) rows' ≡ flat (shown_of p ts from left (length rows))

-- what `fill` promises
pub record Fills (p : Plan) (ts : Tables) (from left : ℕ) (rows : List ℕ) (r : Evaluated) (rows' : List ℕ) : Type 0 where
  pub verdict_is : r.verdict ≡ evaluation_fault p ts
  pub rows_then : rows' ≡ rows_after p ts from left rows
  pub rows_long : length rows' ≡ length rows
  pub words_fit : r.count * p.select_count ≤ length rows
  pub front_in : evaluation_fault p ts ≡ Ok tt → Front p ts from left rows r rows'

-- a window is shown: the answer, and the two buffers after it. Its text fits where the buffer for bytes has room for as many words, each as long
-- as can be, as the buffer for rows has, and for the last line
pub record ShowsWindow (p : Plan) (ts : Tables) (from left : ℕ) (rows out : List ℕ) (r : Window) (rows' out' : List ℕ) : Type 0 where
  pub answer_is : r ≡ window_of p ts from left (length rows)
  pub rows_are : rows' ≡ rows_after p ts from left rows
  pub out_is : out' ≡ out_after p ts from left (length rows) out
  pub fits : word_bytes * length rows + last_bytes ≤ length out → r.length ≤ length out

-- what evaluation and a window answer, as records
abbrev pub evaluated_of : Result Shown Refusal → Evaluated
evaluated_of (Ok s) = record { verdict = Ok tt; count = s.count; more = s.more }
evaluated_of (Err r) = record { verdict = Err r; count = 0; more = false }

abbrev pub said_window : Result Said Refusal → Window
said_window (Ok w) = record { verdict = Ok tt; length = w.length; last = w.last; from = w.from; left = w.left }
said_window (Err r) = refused_window (Err r)
