-- Demand 3: what it means that a candidate is the first of least cost.
use Rattle.std.specs.Prelude.{◌≡◌, ℕ, ◌≤◌, ◌<◌, List, length, get_or}
use Rattle.search.specs.Search.{Candidate}

-- c stands in the list at number `place`; it costs no more than any, and less than every earlier one
pub record FirstLeast (c : Candidate) (l : List Candidate) : Type 0 where
  pub place : ℕ
  pub within : place < length l
  pub stands : (d : Candidate) → get_or l place d ≡ c
  pub least : (u : ℕ) (d : Candidate) → u < length l → c.cost ≤ (get_or l u d).cost
  pub first : (u : ℕ) (d : Candidate) → u < place → c.cost < (get_or l u d).cost
