-- What it is to take the next visit, to pass some over, and to show the rows of those that follow.
use Rattle.std.specs.Prelude.{◌≡◌, Bool, true, false, List, [], ◌∷◌, map, ℕ, ◌-◌, ◌<◌, length, get_or, drop}
use Rattle.plan.specs.declared.Scan.{Scan}
use Rattle.visits.specs.Visits.{Tables, slots_at}
use Rattle.visits.specs.Window.{window, follows, filled}
use Rattle.visits.specs.Pending.{current, pending}
use Rattle.eval.specs.Steps.{Ready}

-- the innermost scan's number
abbrev pub innermost : List Scan → ℕ
innermost ss = length ss - 1

-- the visits of all scans that are still to come
abbrev pub remaining : Tables → List Scan → List ℕ → List ℕ → List (List ℕ)
remaining ts ss initial iters = pending ts ss initial iters (length ss)

-- the next visit is taken: whether there was one. Where there was none there is none after it either
pub record Advanced (ts : Tables) (ss : List Scan) (initial iters : List ℕ) (more : Bool) (iters' slots' : List ℕ) : Type 0 where
  pub next : more ≡ true → remaining ts ss initial iters ≡ current iters' (length ss) ∷ remaining ts ss initial iters'
  pub slots_are : more ≡ true → slots' ≡ slots_at ts ss initial (current iters' (length ss))
  pub ready : Ready ts ss initial iters' slots' (innermost ss)
  pub no_more : more ≡ false → remaining ts ss initial iters ≡ []
  pub no_rest : more ≡ false → remaining ts ss initial iters' ≡ []

-- a number of visits is passed over: whether there were as many. What is left is left
pub record Skipped (ts : Tables) (ss : List Scan) (initial iters : List ℕ) (count : ℕ) (more : Bool) (iters' slots' : List ℕ) : Type 0 where
  pub rest : remaining ts ss initial iters' ≡ drop count (remaining ts ss initial iters)
  pub ready : Ready ts ss initial iters' slots' (innermost ss)
  pub no_more : more ≡ false → drop count (remaining ts ss initial iters) ≡ []

-- the slots with these numbers
abbrev pub selected_by : List ℕ → List ℕ → List ℕ
selected_by selects slots = map (λ (x : ℕ). get_or slots x 0) selects

-- each is the number of a slot
abbrev pub Named : List ℕ → ℕ → Type 0
Named selects slots = (j : ℕ) → j < length selects → get_or selects j 0 < slots

-- the rows of some visits
abbrev pub rows_at : Tables → List Scan → List ℕ → List ℕ → List (List ℕ) → List (List ℕ)
rows_at ts ss initial selects ws = map (λ (w : List ℕ). selected_by selects (slots_at ts ss initial w)) ws

-- what is shown of some rows of a width, from number k on: how many, whether another follows, and the buffer after it
pub record Shows (rows : List (List ℕ)) (width k : ℕ) (buffer : List ℕ) (count : ℕ) (more : Bool) (buffer' : List ℕ) : Type 0 where
  pub count_is : count ≡ length (window rows width k (length buffer))
  pub more_is : more ≡ follows rows width k (length buffer)
  pub buffer_is : buffer' ≡ filled (window rows width k (length buffer)) buffer
