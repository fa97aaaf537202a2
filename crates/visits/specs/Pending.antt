-- The visits that are still to come, read off the state of the iterators: a position and an end per scan.
use Rattle.std.specs.Prelude.{List, [], ◌∷◌, ◌++◌, map, ℕ, zero, suc, ◌+◌, ◌*◌, ◌-◌, get_or, take}
use Rattle.lists.specs.Span.{span}
use Rattle.plan.specs.declared.Scan.{Scan}
use Rattle.plan.specs.Plan.{zero_scan}
use Rattle.visits.specs.Visits.{Tables, visited, slots_at}

-- a visit, and then row k of one more scan
abbrev pub further : List ℕ → ℕ → List ℕ
further w k = w ++ (k ∷ [])

-- each visit of the scans ss, followed by each row that scan s visits from there
unfoldable pub extend : Tables → List Scan → Scan → List ℕ → List (List ℕ) → List (List ℕ)
extend ts ss s slots [] = []
extend ts ss s slots (w ∷ ws) = map (further w) (visited ts s (slots_at ts ss slots w)) ++ extend ts ss s slots ws

-- the words of an iterator: the number of the row that the scan takes next, and the number past its last
abbrev pub iter_words : ℕ
iter_words = 2

abbrev pub position : List ℕ → ℕ → ℕ
position iters i = get_or iters (iter_words * i) 0

abbrev pub ending : List ℕ → ℕ → ℕ
ending iters i = get_or iters (iter_words * i + 1) 0

-- where the first i scans stand: each is one before the row that it takes next
unfoldable pub current : List ℕ → ℕ → List ℕ
current iters zero = []
current iters (suc i) = further (current iters i) (position iters i - 1)

-- the slots there
abbrev pub current_slots : Tables → List Scan → List ℕ → List ℕ → ℕ → List ℕ
current_slots ts ss initial iters i = slots_at ts (take i ss) initial (current iters i)

-- scan i's rows that are left, and then what comes of the visits outside it that are left
unfoldable pub pending : Tables → List Scan → List ℕ → List ℕ → ℕ → List (List ℕ)
pending ts ss initial iters zero = []
pending ts ss initial iters (suc i) =
    map (further (current iters i)) (span (position iters i) (ending iters i - position iters i)) ++
    extend ts (take i ss) (get_or ss i zero_scan) initial (pending ts ss initial iters i)
