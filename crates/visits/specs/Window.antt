-- 01, "Tables and rows": a call asks for rows from number k on, and gets as many whole rows as fit in the lent row buffer.
use Rattle.std.specs.Prelude.{ℕ, ◌/◌, List, ◌++◌, Bool, length, take, drop, ltb}
use Rattle.tables.specs.Rows.{flat}

-- the rows from number k on that a buffer of `room` words has room for, of `width` words each
unfoldable pub window : List (List ℕ) → ℕ → ℕ → ℕ → List (List ℕ)
window rows width k room = take (room / width) (drop k rows)

-- another follows: there is a row past the last of the window
abbrev pub follows : List (List ℕ) → ℕ → ℕ → ℕ → Bool
follows rows width k room = ltb (room / width) (length (drop k rows))

-- the buffer after it: the rows, and the words past the last as they were
abbrev pub filled : List (List ℕ) → List ℕ → List ℕ
filled rows buffer = flat rows ++ drop (length (flat rows)) buffer
