-- What a step of the nested loops needs and does.
use Rattle.std.specs.Prelude.{◌≡◌, ℕ, suc, ◌+◌, ◌*◌, ◌-◌, ◌<◌, ◌≤◌, Bool, true, false, List, [], ◌∷◌, length, get_or, take, drop}
use Rattle.lists.specs.Span.{span}
use Rattle.tables.specs.Rows.{count, rows_of, ascending, matching}
use Rattle.plan.specs.declared.Scan.{Scan}
use Rattle.plan.specs.declared.Index.{Index}
use Rattle.plan.specs.Plan.{first_slot, second_slot, zero_scan}
use Rattle.visits.specs.Visits.{Tables, table_of, row_for, inputs, wanted}
use Rattle.visits.specs.Sound.{stood, Agree}
use Rattle.visits.specs.Pending.{iter_words, position, ending, current, current_slots, pending}

-- the tables are sorted
abbrev pub Ascend : Tables → Type 0
Ascend ts = (x : Index) → ascending (rows_of (table_of ts x)) ≡ true

-- what the rows that a scan visits begin with
abbrev pub key_of : Scan → List ℕ → List ℕ
key_of s slots = take (1 + inputs s.flow) (row_for s.index (wanted s slots))

-- the slots once a scan stands at a row, whose first word, or second in eavt, is the attribute
abbrev pub filled_from : List ℕ → Scan → List ℕ → List ℕ
filled_from row s slots = stood s.flow (first_slot s).0 (second_slot s).0 (get_or row 1 0) (get_or row 2 0) slots

-- the rows that begin with a key, from one number to another
pub record Found (t ks : List ℕ) (from to : ℕ) : Type 0 where
  pub within : to ≤ count t
  pub rows : ascending (rows_of t) ≡ true → matching t ks ≡ span from (to - from)

-- what the state has to be for scan i to take a step
pub record Ready (ts : Tables) (ss : List Scan) (initial iters slots : List ℕ) (i : ℕ) : Type 0 where
  pub low : i < length ss
  pub iters_long : iter_words * length ss ≤ length iters
  pub slots_long : length slots ≡ length initial
  pub ends : (j : ℕ) → j ≤ i → ending iters j ≤ count (table_of ts (get_or ss j zero_scan).index)
  pub live : (j : ℕ) → j ≤ i → position iters j < ending iters j → Agree (drop j ss) slots (current_slots ts ss initial iters j)

-- what a step of scan i does: it answers whether there is a visit still to come, and stands at the first of these; where there is none,
-- no scan has a row left
pub record Stepped (ts : Tables) (ss : List Scan) (initial iters : List ℕ) (i : ℕ) (more : Bool) (iters' slots' : List ℕ) : Type 0 where
  pub above : (j : ℕ) → iter_words * suc i ≤ j → get_or iters' j 0 ≡ get_or iters j 0
  pub ends : (j : ℕ) → j ≤ i → ending iters' j ≤ count (table_of ts (get_or ss j zero_scan).index)
  pub yes_next : more ≡ true → pending ts ss initial iters (suc i) ≡ current iters' (suc i) ∷ pending ts ss initial iters' (suc i)
  pub yes_slots : more ≡ true → Agree (drop (suc i) ss) slots' (current_slots ts ss initial iters' (suc i))
  pub no_more : more ≡ false → pending ts ss initial iters (suc i) ≡ []
  pub no_row : more ≡ false → (j : ℕ) → j ≤ i → ending iters' j ≤ position iters' j
