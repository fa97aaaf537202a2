-- 01, "Refusal numbers": the check of three tables gives 1, 2, 3.
use Rattle.std.specs.Prelude.{ℕ, ◌%◌, List, [], ◌∷◌, Bool, true, false, not, ◌&&◌, ◌||◌, length, eqb}
use Rattle.refusal.specs.Verdict.{Verdict}
use Rattle.refusal.specs.Verdict.{refuse_if, or_else, refuse_first}
use Rattle.datom.specs.Fact.{words, avet_row, eavt_row}
use Rattle.tables.specs.Rows.{rows_of, ascending, fact_of}

-- two rows are the same, word by word
unfoldable pub same_row : List ℕ → List ℕ → Bool
same_row [] [] = true
same_row [] (y ∷ ys) = false
same_row (x ∷ xs) [] = false
same_row (x ∷ xs) (y ∷ ys) = eqb x y && same_row xs ys

-- a row stands among rows
unfoldable pub is_among : List ℕ → List (List ℕ) → Bool
is_among r [] = false
is_among r (s ∷ ss) = same_row r s || is_among r ss

-- 1: a table's length is no multiple of the words a row, or lengths differ
abbrev pub lengths_fault : ℕ → ℕ → ℕ → Verdict
lengths_fault a b c = refuse_if (not (eqb (a % words) 0 && eqb b a && eqb c a)) 1 0

-- 2: a table isn't strictly ascending
abbrev pub order_fault : List ℕ → ℕ → Verdict
order_fault t place = refuse_if (not (ascending (rows_of t))) 2 place

-- 3: the first aevt row, from number i on, whose triple is missing in avet or eavt
unfoldable pub missing_fault : List (List ℕ) → List (List ℕ) → List (List ℕ) → ℕ → Verdict
missing_fault avet eavt rs i =
    refuse_first (λ (r : List ℕ). not (is_among (avet_row (fact_of r)) avet && is_among (eavt_row (fact_of r)) eavt)) 3 i rs

-- the check: 1; 2 at place 0 aevt, 1 avet, 2 eavt, the first such; 3
unfoldable pub tables_fault : List ℕ → List ℕ → List ℕ → Verdict
tables_fault aevt avet eavt =
    or_else (lengths_fault (length aevt) (length avet) (length eavt))
    (or_else (order_fault aevt 0)
    (or_else (order_fault avet 1) (or_else (order_fault eavt 2) (missing_fault (rows_of avet) (rows_of eavt) (rows_of aevt) 0))))
