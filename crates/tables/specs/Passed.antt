-- What three tables that pass the check promise: all that evaluation sees of them.
use Rattle.std.specs.Prelude.{◌≡◌, true, List, ℕ, ◌%◌, ◌<◌, length}
use Rattle.datom.specs.Fact.{Fact, words, aevt_row, avet_row, eavt_row}
use Rattle.tables.specs.Rows.{count, row, rows_of, ascending}
use Rattle.tables.specs.Check.{is_among}

-- no row stands twice in a table
abbrev pub Once : List ℕ → Type 0
Once t = (i j : ℕ) → i < count t → j < count t → row t i ≡ row t j → i ≡ j

-- a table is made of whole rows, each before the next
pub record Sorted (t : List ℕ) : Type 0 where
  pub whole : length t % words ≡ 0
  pub ascends : ascending (rows_of t) ≡ true

-- the tables are sorted and equally long, no row stands twice, and each fact is in all three of them or in none
pub record Passed (aevt avet eavt : List ℕ) : Type 0 where
  pub aevt_sorted : Sorted aevt
  pub avet_sorted : Sorted avet
  pub eavt_sorted : Sorted eavt
  pub avet_length : length avet ≡ length aevt
  pub eavt_length : length eavt ≡ length aevt
  pub aevt_once : Once aevt
  pub avet_once : Once avet
  pub eavt_once : Once eavt
  pub in_avet : (f : Fact) → is_among (aevt_row f) (rows_of aevt) ≡ is_among (avet_row f) (rows_of avet)
  pub in_eavt : (f : Fact) → is_among (aevt_row f) (rows_of aevt) ≡ is_among (eavt_row f) (rows_of eavt)
