-- docs/LAYOUT.md, "What it writes": what stands before the rows, or all that is written.
use Rattle.std.specs.Prelude.{◌≡◌, ℕ, ◌-◌, ◌≤◌, Bool, true, false, cond, Option, Some, None, List, ◌++◌, length}
use Rattle.refusal.specs.Verdict.{Verdict}
use Rattle.refusal.specs.Verdict.{or_else, unless}
use Rattle.plan.specs.declared.Plan.{Plan}
use Rattle.plan.specs.Plan.{empty_plan}
use Rattle.text_pieces.specs.Written.{Written}
use Rattle.ask_lines.specs.Lines.{outside_line, refusal_text, cost_line}
use Rattle.plan_text.specs.Text.{text_of}
use Rattle.plan_text.specs.Answer.{text_fault}
use Rattle.eval.specs.Evaluation.{evaluation_fault}
use Rattle.ask_plan.specs.Answered.{Answer}
use Rattle.ask_plan.specs.Answer.{answer_of}
use Rattle.ask_opening.specs.declared.Opening.{Opening}
use Rattle.ask_opening.specs.Question.{is_question, names_of, ends_of, tables_in}

-- the longest cost line: `cost` and 20 digits, with a space and two line feeds
abbrev pub cost_bytes : ℕ
cost_bytes = 27

-- the longest refusal line: a number of 3 digits, a place of 20, and the words between them
abbrev pub line_bytes : ℕ
line_bytes = 36

-- what is said first: a text, and the plan whose rows follow, if they do
pub record Said : Type 0 where
  pub rows : Bool
  pub plan : Plan
  pub text : List ℕ

-- a text, and no rows
abbrev pub only : List ℕ → Said
only text = record { rows = false; plan = empty_plan; text = text }

-- the numbers are not a question
abbrev pub outside : Said
outside = only outside_line

-- a refusal, alone
abbrev pub refusal : Verdict → Said
refusal v = only (refusal_text v)

-- of a plan: the text's refusal, for what is left of a buffer beside the cost line, and then that of evaluation
unfoldable pub showing_fault : List ℕ → Plan → List ℕ → List ℕ → ℕ → Verdict
showing_fault ws p names ends room = or_else (text_fault p names ends (room - cost_bytes)) (evaluation_fault p (tables_in ws))

-- the plan text and the cost, and the rows follow
unfoldable pub opened_with : List ℕ → Plan → ℕ → List ℕ → List ℕ → ℕ → Said
opened_with ws p cost names ends room =
    unless (showing_fault ws p names ends room) refusal (record { rows = true; plan = p; text = text_of p names ends ++ cost_line cost })

-- the refusals of the types, planning, the search and the cost come first
unfoldable pub opened : List ℕ → Answer → ℕ → Said
opened ws a room = unless a.verdict refusal (opened_with ws a.plan a.cost (names_of ws) (ends_of ws a.plan.slot_count) room)

-- what is said of numbers, for a buffer of `room` bytes
unfoldable pub opening_of : List ℕ → ℕ → Said
opening_of ws room = cond (is_question ws) (opened ws (answer_of ws) room) outside

-- a text is written to the front of a buffer, and lies within it where the buffer has room for a refusal
pub record Line (text : List ℕ) (buffer : List ℕ) (n : ℕ) (buffer' : List ℕ) : Type 0 where
  pub is_written : Written text 0 buffer n buffer'
  pub fits : line_bytes ≤ length buffer → n ≤ length buffer

-- the plan whose rows follow, if they do
abbrev pub plan_shown : Said → Option Plan
plan_shown s = cond s.rows (Some s.plan) None

-- it is said: the answer, and the buffer after it
pub record Opens (s : Said) (buffer : List ℕ) (r : Opening) (buffer' : List ℕ) : Type 0 where
  pub plan_is : r.plan ≡ plan_shown s
  pub line : Line s.text buffer r.length buffer'
