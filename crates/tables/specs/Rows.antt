-- 01, "Tables and rows": a table is a list of words, some words a row, strictly ascending word by word.
use Rattle.std.specs.Prelude.{◌≡◌, ℕ, ◌+◌, ◌*◌, ◌/◌, ◌%◌, ◌≤◌, ◌<◌, List, [], ◌∷◌, ◌++◌, map, Bool, true, false, cond, ◌&&◌, ◌||◌, length, get_or, take, drop, ltb, eqb}
use Rattle.lists.specs.Span.{span}
use Rattle.datom.specs.Fact.{Fact, words}

-- how many rows a table has
abbrev pub count : List ℕ → ℕ
count t = length t / words

-- the words of row i
unfoldable pub row : List ℕ → ℕ → List ℕ
row t i = take words (drop (words * i) t)

-- the rows of a table, in table order
abbrev pub rows_of : List ℕ → List (List ℕ)
rows_of t = map (row t) (span 0 (count t))

-- a row comes before another: at the first word where they differ it has the smaller
unfoldable pub before : List ℕ → List ℕ → Bool
before [] ys = false
before (x ∷ xs) [] = false
before (x ∷ xs) (y ∷ ys) = ltb x y || (eqb x y && before xs ys)

-- each row comes before the next
unfoldable pub ascending : List (List ℕ) → Bool
ascending [] = true
ascending (r ∷ []) = true
ascending (r ∷ (s ∷ rs)) = before r s && ascending (s ∷ rs)

-- a row begins with the words of a key
unfoldable pub begins : List ℕ → List ℕ → Bool
begins xs [] = true
begins [] (k ∷ ks) = false
begins (x ∷ xs) (k ∷ ks) = eqb x k && begins xs ks

-- those of the numbers that pass the test
unfoldable pub keep : (ℕ → Bool) → List ℕ → List ℕ
keep p [] = []
keep p (x ∷ xs) = cond (p x) (x ∷ keep p xs) (keep p xs)

-- the numbers of the rows that begin with a key, in table order
unfoldable pub matching : List ℕ → List ℕ → List ℕ
matching t ks = keep (λ i. begins (row t i) ks) (span 0 (count t))

-- rows one after the other, as words
unfoldable pub flat : List (List ℕ) → List ℕ
flat [] = []
flat (r ∷ rs) = r ++ flat rs

-- the fact that a row of aevt holds
abbrev pub fact_of : List ℕ → Fact
fact_of r = record { attribute = get_or r 0 0; entity = get_or r 1 0; value = get_or r 2 0 }

-- a key: the first n of three words
abbrev pub key : ℕ → ℕ → ℕ → ℕ → List ℕ
key n a b c = take n (a ∷ b ∷ c ∷ [])

-- r is the first row that does not come before a key: every row below it does, and none from it on; where all do, it is how many rows
-- there are. Which rows come before the key is said only of an ascending table
pub record FirstRow (t ks : List ℕ) (r : ℕ) : Type 0 where
  pub within : r ≤ count t
  pub below : ascending (rows_of t) ≡ true → (k : ℕ) → k < r → before (row t k) ks ≡ true
  pub not_before : ascending (rows_of t) ≡ true → (k : ℕ) → r ≤ k → k < count t → before (row t k) ks ≡ false

-- r is past the rows that begin with a key, which stand from row i on: every row from i on below r begins with it, and none from r on
pub record PastRows (t ks : List ℕ) (i r : ℕ) : Type 0 where
  pub at_least : i ≤ r
  pub within : r ≤ count t
  pub begin : ascending (rows_of t) ≡ true → (k : ℕ) → i ≤ k → k < r → begins (row t k) ks ≡ true
  pub past : ascending (rows_of t) ≡ true → (k : ℕ) → r ≤ k → k < count t → begins (row t k) ks ≡ false

-- r is the part of a table that holds its rows that begin with a key, all of them and no other, and i is the number of the first of them:
-- the first row that does not come before the key. Which rows these are is said only of an ascending table
pub record Range (t ks r : List ℕ) (i : ℕ) : Type 0 where
  pub starts : FirstRow t ks i
  pub whole : length r % words ≡ 0
  pub within : i + length r / words ≤ count t
  pub part : r ≡ take (length r) (drop (words * i) t)
  pub numbers : ascending (rows_of t) ≡ true → matching t ks ≡ span i (length r / words)
  pub rows : ascending (rows_of t) ≡ true → r ≡ flat (map (row t) (matching t ks))
