-- 01, "Tables and rows" and "Refusal numbers": evaluation is the plan check, 28 where there are no scans, the check of the tables, and then
-- the window of the rows.
use Rattle.std.specs.Prelude.{Result}
use Rattle.refusal.specs.Verdict.{Refusal, answer}
use Rattle.eval.specs.declared.rows.Shown.{Shown}
use Rattle.std.specs.Prelude.{◌≡◌, Bool, false, ℕ, ◌*◌, ◌<◌, ◌≤◌, List, map, length, take, eqb}
use Rattle.refusal.specs.Verdict.{Verdict}
use Rattle.std.specs.Prelude.{Ok}
use Rattle.refusal.specs.Verdict.{refuse_if, or_else, unless}
use Rattle.capacity.specs.Capacity.{max_scans, max_slots, max_selects}
use Rattle.plan.specs.declared.Slot.{Slot}
use Rattle.plan.specs.declared.SlotRecord.{SlotRecord}
use Rattle.plan.specs.declared.Plan.{Plan}
use Rattle.plan.specs.Plan.{scans_of, slots_of, slots_selected, Counted}
use Rattle.plan_check.specs.Check.{check_of}
use Rattle.plan_check.specs.Promised.{Promised}
use Rattle.tables.specs.Check.{tables_fault}
use Rattle.visits.specs.Visits.{Tables, start_value, row_list}
use Rattle.visits.specs.Window.{window, follows, filled}
use Rattle.visits.specs.Pending.{iter_words}
use Rattle.eval.specs.Words.{laid_words, words_of}
use Rattle.eval.specs.Steps.{Ascend}
use Rattle.eval.specs.Next.{Shows}
use Rattle.eval.specs.Answered.{Evaluated}

-- what slots hold before any scan
abbrev pub values_of : List SlotRecord → List ℕ
values_of ss = map (λ (s : SlotRecord). start_value s.definition) ss

-- the numbers of slots
abbrev pub numbers_of : List Slot → List ℕ
numbers_of ks = map (λ (k : Slot). k.0) ks

-- a plan that passed the check and has a scan, and sorted tables
pub record Evaluable (p : Plan) (ts : Tables) : Type 0 where
  pub promised : Promised p
  pub some_scan : 0 < length (scans_of p)
  pub some_select : 0 < length (slots_selected p)
  pub sorted : Ascend ts

-- the state has room for any plan
pub record Roomy (words initial selects iters slots : ℕ) : Type 0 where
  pub words_room : laid_words * max_scans ≤ words
  pub initial_room : max_slots ≤ initial
  pub selects_room : max_selects ≤ selects
  pub iters_room : iter_words * max_scans ≤ iters
  pub slots_room : max_slots ≤ slots

-- a plan whose counts are within the capacities, and room for what is written out of it
pub record RoomFor (p : Plan) (words initial selects slots : ℕ) : Type 0 where
  pub counted : Counted p.scan_count p.slot_count p.select_count
  pub words_fit : laid_words * p.scan_count ≤ words
  pub initial_fit : p.slot_count ≤ initial
  pub selects_fit : p.select_count ≤ selects
  pub slots_fit : p.slot_count ≤ slots

-- the plan stands in front of the buffers: its scans as words, what its slots hold before any scan, twice, and the numbers of its selects
pub record WrittenOut (p : Plan) (words initial selects slots : List ℕ) : Type 0 where
  pub words_are : take (laid_words * p.scan_count) words ≡ words_of (scans_of p)
  pub initial_are : take p.slot_count initial ≡ values_of (slots_of p)
  pub selects_are : take p.select_count selects ≡ numbers_of (slots_selected p)
  pub slots_are : take p.slot_count slots ≡ values_of (slots_of p)

-- what is shown of a plan's rows
abbrev pub ShowsRows : Plan → Tables → ℕ → List ℕ → ℕ → Bool → List ℕ → Type 0
ShowsRows p ts k buffer count more buffer' = Shows (row_list p ts) (length (slots_selected p)) k buffer count more buffer'

-- the order of refusals: the plan check, 28 where the plan has no scans (no plan that passes has none: `no-28`), the check of the tables
unfoldable pub evaluation_fault : Plan → Tables → Verdict
evaluation_fault p ts =
    or_else (check_of p) (or_else (refuse_if (eqb p.scan_count 0) 28 0) (tables_fault ts.aevt ts.avet ts.eavt))

-- a call that shows its window of some rows of a width, from number k on: how many of them have room, and whether another follows
abbrev pub shows : List (List ℕ) → ℕ → ℕ → ℕ → Evaluated
shows rows width k room = record { verdict = Ok tt; count = length (window rows width k room); more = follows rows width k room }

-- and the buffer that it leaves: those rows, and the words past the last as they were
abbrev pub shown_in : List (List ℕ) → ℕ → ℕ → List ℕ → List ℕ
shown_in rows width k buffer = filled (window rows width k (length buffer)) buffer

-- the answer of evaluation from row k on, into a buffer of `room` words
unfoldable pub evaluate_of : Plan → Tables → ℕ → ℕ → Evaluated
evaluate_of p ts k room =
    unless (evaluation_fault p ts) (λ v. record { verdict = v; count = 0; more = false }) (shows (row_list p ts) (length (slots_selected p)) k room)

-- and the buffer after it
unfoldable pub buffer_after : Plan → Tables → ℕ → List ℕ → List ℕ
buffer_after p ts k buffer = unless (evaluation_fault p ts) (λ v. buffer) (shown_in (row_list p ts) (length (slots_selected p)) k buffer)

-- what `evaluate` answers
abbrev pub said_rows : Evaluated → Result Shown Refusal
said_rows e = answer e.verdict (record { count = e.count; more = e.more })
