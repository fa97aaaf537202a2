-- 01, "What crosses the counter", as 02's Ticket 6 raises it: the one place of the definitions that has the capacities.
use Rattle.std.specs.Prelude.{ℕ}

-- statements or scans, and as many elements for swaps
abbrev pub max_statements : ℕ
max_statements = 63

abbrev pub max_scans : ℕ
max_scans = max_statements

abbrev pub max_elements : ℕ
max_elements = max_statements

-- slots: variables and constants
abbrev pub max_slots : ℕ
max_slots = 126

-- selects; the fewest is 1
abbrev pub max_selects : ℕ
max_selects = 32

-- statements for the search
abbrev pub max_searched : ℕ
max_searched = 6
