-- A table as its rows: the words of a row, the rows from a number on, what is among them.
use mathlib.Core.Path.{◌≡◌, refl, sym, ap, ◌∙◌}
use mathlib.Core.Logic.{⊎_elim}
use mathlib.Core.Bool.{true, false, ◌&&◌, or-true}
use mathlib.Core.List.{List, [], ◌∷◌, ◌++◌, map, append_assoc}
use Prim.Native.Nat.{ℕ, zero, suc, ◌+◌, ◌*◌, ◌-◌, ◌≤◌, ◌<◌}
use native.Mathlib.Omega.{arith}
use native.Mathlib.Nat.{add-zero, eq-or-lt_of_le}
use lib.ListN.{length, get_or, take, drop, length-drop, drop_of_length-le}
use lib.Seq.{get_or-take, get_or-drop, length-take-le, take-add, drop-drop}
use Rattle.datom.specs.Fact.{words}
use Rattle.lists.specs.Span.{span}
use Rattle.tables.specs.Rows.{count, row, before, ascending, flat}
use Rattle.tables.specs.Check.{same_row, is_among}

-- a row has as many words as rows have
pub row-length : (t : List ℕ) (i : ℕ) → i < count t → length (row t i) ≡ words
unfolding row
row-length t i h = length-take-le words (drop (words * i) t) (simp length-drop (omega arith))

-- word j of row i
row_word : (t : List ℕ) (i j : ℕ) → j < words → get_or (row t i) j 0 ≡ get_or t (words * i + j) 0
unfolding row
row_word t i j h = get_or-take words (drop (words * i) t) j 0 h ∙ get_or-drop (words * i) t j 0

-- a list's first three elements
three : (l : List ℕ) → 3 ≤ length l → l ≡ get_or l 0 0 ∷ get_or l 1 0 ∷ get_or l 2 0 ∷ drop 3 l
three [] h = absurd (omega arith)
three (a ∷ []) h = absurd (omega arith)
three (a ∷ b ∷ []) h = absurd (omega arith)
three (a ∷ b ∷ c ∷ l) h = refl

-- the words that order a row, and those after them
pub row_words : (t : List ℕ) (i : ℕ) → i < count t
    → row t i ≡ get_or t (words * i) 0 ∷ get_or t (words * i + 1) 0 ∷ get_or t (words * i + 2) 0 ∷ drop 3 (row t i)
row_words t i h =
    let n = row-length t i h in
    let z : get_or (row t i) 0 0 ≡ get_or t (words * i) 0 = row_word t i 0 (omega arith) ∙ ap (λ (k : ℕ). get_or t k 0) (add-zero (words * i)) in
    let l = three (row t i) (omega arith) in
    simp (z, row_word t i 1 (omega arith), row_word t i 2 (omega arith)) at l

-- where keys have all the words that rows have, a row is its three words
pub row-key : (t : List ℕ) (i : ℕ) → i < count t → row t i ≡ get_or t (words * i) 0 ∷ get_or t (words * i + 1) 0 ∷ get_or t (words * i + 2) 0 ∷ []
row-key t i h =
    let n = row-length t i h in
    let e : drop 3 (row t i) ≡ [] = drop_of_length-le (row t i) {i = 3} (omega arith) in
    row_words t i h ∙ ap (λ (l : List ℕ). get_or t (words * i) 0 ∷ get_or t (words * i + 1) 0 ∷ get_or t (words * i + 2) 0 ∷ l) e

-- and to come before it is to come before the key of these words
pub before-row : (t : List ℕ) (i : ℕ) → i < count t → (xs : List ℕ)
    → before xs (get_or t (words * i) 0 ∷ get_or t (words * i + 1) 0 ∷ get_or t (words * i + 2) 0 ∷ []) ≡ before xs (row t i)
before-row t i h xs = ap (before xs) (sym (row-key t i h))

-- the numbers from i on, below n
module _ (n i : ℕ) where
  pub span-step : i < n → span i (n - i) ≡ i ∷ span (i + 1) (n - (i + 1))
  unfolding span
  span-step h = let e : n - i ≡ suc (n - (i + 1)) = omega arith in rw e

  pub span-end : n ≤ i → span i (n - i) ≡ []
  unfolding span
  span-end h = let e : n - i ≡ 0 = omega arith in rw e

-- the order of the rows from i on
module _ (f : ℕ → List ℕ) (n i : ℕ) where
  pub ascending-step : i + 1 < n → ascending (map f (span i (n - i))) ≡ (before (f i) (f (i + 1)) && ascending (map f (span (i + 1) (n - (i + 1)))))
  unfolding ascending
  ascending-step h = rw (span-step n i (omega arith), span-step n (i + 1) h)

  pub ascending-end : n ≤ i + 1 → ascending (map f (span i (n - i))) ≡ true
  unfolding ascending span
  ascending-end h = go (n - i) (omega arith)
    where
      go : (m : ℕ) → m ≤ 1 → ascending (map f (span i m)) ≡ true
      go zero l = refl
      go (suc zero) l = refl
      go (suc (suc m)) l = absurd (omega arith)

-- the words of rows and then others
pub flat_append : (xs ys : List (List ℕ)) → flat (xs ++ ys) ≡ flat xs ++ flat ys
unfolding flat
flat_append [] ys = refl
flat_append (x ∷ xs) ys = ap (λ (l : List ℕ). x ++ l) (flat_append xs ys) ∙ sym (append_assoc x (flat xs) (flat ys))

-- the words of m rows from row s on
pub flat_rows : (t : List ℕ) (s m : ℕ) → flat (map (row t) (span s m)) ≡ take (words * m) (drop (words * s) t)
unfolding flat row span
flat_rows t s zero = refl
flat_rows t s (suc m) =
    let e : words * suc m ≡ words + words * m = omega arith in
    let f : words * (s + 1) ≡ words * s + words = omega arith in
    rw (e, take-add words (words * m) (drop (words * s) t), drop-drop words (words * s) t, flat_rows t (s + 1) m, f)

-- a row is among so many rows if it is one of them, and is not if it is none of them
module _ (r : List ℕ) (f : ℕ → List ℕ) where
  pub among-at : (s n i : ℕ) → s ≤ i → i < s + n → same_row r (f i) ≡ true → is_among r (map f (span s n)) ≡ true
  unfolding is_among span
  among-at s zero i l h e = absurd (omega arith)
  among-at s (suc n) i l h e =
      ⊎_elim (λ (q : s ≡ i). simp (q, e)) (λ (q : s < i). simp (among-at (s + 1) n i (omega arith) (omega arith) e, or-true)) (eq-or-lt_of_le l)

  pub among_none : (s n : ℕ) → ((i : ℕ) → s ≤ i → i < s + n → same_row r (f i) ≡ false) → is_among r (map f (span s n)) ≡ false
  unfolding is_among span
  among_none s zero h = refl
  among_none s (suc n) h =
      rw (h s (omega arith) (omega arith), among_none (s + 1) n (λ i l g. h i (omega arith) (omega arith)))
