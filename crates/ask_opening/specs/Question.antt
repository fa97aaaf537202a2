-- docs/LAYOUT.md: what a question's numbers say for the names, the text and the tables.
use Rattle.std.specs.Prelude.{ℕ, ◌-◌, Bool, ◌&&◌, List, ◌++◌, length, get_or, replicate, leb}
use Rattle.visits.specs.Visits.{Tables}
use Rattle.ask_question.specs.Parts.{parts_of, items_of, inside_of}

-- "The program's capacities": bytes of names
abbrev pub name_bytes : ℕ
name_bytes = 4096

-- the bytes of names
abbrev pub names_of : List ℕ → List ℕ
names_of ws = items_of ws (parts_of ws).names

-- in the layout, and within the capacity for names
unfoldable pub is_question : List ℕ → Bool
is_question ws = inside_of ws && leb (length (names_of ws)) name_bytes

-- the ends that are given, one for each variable
abbrev pub given_ends : List ℕ → List ℕ
given_ends ws = items_of ws (parts_of ws).ends

-- a constant has no name: its end is the last one given, or 0 where there is none
unfoldable pub ends_with : List ℕ → ℕ → List ℕ
ends_with given constants = given ++ replicate constants (get_or given (length given - 1) 0)

-- the ends of the names of a plan's slots: those past the variables are constants
abbrev pub ends_of : List ℕ → ℕ → List ℕ
ends_of ws slots = ends_with (given_ends ws) (slots - get_or ws 1 0)

-- the three tables
abbrev pub tables_in : List ℕ → Tables
tables_in ws = record { aevt = items_of ws (parts_of ws).aevt; avet = items_of ws (parts_of ws).avet; eavt = items_of ws (parts_of ws).eavt }
