-- A table of types: what the test of its rows says, and that the search by halves finds an attribute's row.
use mathlib.Core.Path.{◌≡◌, refl, sym, ap, ◌∙◌}
use mathlib.Core.Logic.{⊎_elim}
use Prim.Native.Nat.{ℕ, zero, suc, ◌+◌, ◌*◌, ◌%◌, ◌≤◌, ◌<◌}
use mathlib.Core.List.{List, [], ◌∷◌}
use mathlib.Core.Bool.{Bool, true, false, false≢true}
use native.Mathlib.Omega.{arith}
use native.Mathlib.Nat.{eq-or-lt_of_le, zero-add}
use borrow.Author.Tests.{ltb-true, ltb-false, lt-ltb, eq-eqb, ne_eqb}
use lib.ListN.{length, get_or, drop}
use lib.Seq.{get_or-take, get_or-drop}
use lib.Dec.{ltb}
use Rattle.std.proofs.Common.{Some, None, nat_cmp, Less, Equal, Greater}
use Rattle.std.specs.Simd.{first_chunks}
use Rattle.std.specs.List.{HoldsAt, IsAllAdjacentAnswer}
use Rattle.std.specs.List.Sorted.{IsNonDecreasingBy, IsPartitionPoint}
use Rattle.std.specs.Ordering.{ordering_index}
use Rattle.std.proofs.lemmas.Cmp.{ranked}
use Rattle.std.proofs.lemmas.List.Sorted.{IsNonDecreasingBy-from_default}
use Rattle.std.proofs.lemmas.Bool.Decides.{nat_tests}
use Rattle.tables.proofs.Order.{both, lt-or-ge}
use Rattle.types.specs.Types.{is_table, is_typed, type_of}
use Rattle.types.specs.Record.{row_count, attribute_at, found_in}

-- it is of even length
pub table-even : (t : List ℕ) → is_table t ≡ true → length t % 2 ≡ 0
unfolding is_table
table-even [] e = refl
table-even (a ∷ []) e = absurd (false≢true e)
table-even (a ∷ x ∷ []) e = refl
table-even (a ∷ x ∷ b ∷ rows) e = omega (arith, table-even (b ∷ rows) (both (ltb a b) (is_table (b ∷ rows)) e).1)

pub table-odd : (t : List ℕ) → (length t % 2 ≡ 0 → ⊥) → is_table t ≡ false
table-odd t odd = go (is_table t) refl
  where
    go : (b : Bool) → is_table t ≡ b → is_table t ≡ false
    go true e = absurd (odd (table-even t e))
    go false e = e

-- the rows after the first
table-rest : (a x : ℕ) (rows : List ℕ) → is_table (a ∷ x ∷ rows) ≡ true → is_table rows ≡ true
unfolding is_table
table-rest a x [] e = refl
table-rest a x (b ∷ rows) e = (both (ltb a b) (is_table (b ∷ rows)) e).1

-- one row on
attribute-on : (a x : ℕ) (rows : List ℕ) (i : ℕ) → attribute_at (a ∷ x ∷ rows) (suc i) ≡ attribute_at rows i
attribute-on a x rows i = let e : 2 * suc i ≡ suc (suc (2 * i)) = omega arith in ap (λ (j : ℕ). get_or (a ∷ x ∷ rows) j 0) e

type-on : (a x : ℕ) (rows : List ℕ) (i : ℕ) → get_or (a ∷ x ∷ rows) (2 * suc i + 1) 0 ≡ get_or rows (2 * i + 1) 0
type-on a x rows i = let e : 2 * suc i + 1 ≡ suc (suc (2 * i + 1)) = omega arith in ap (λ (j : ℕ). get_or (a ∷ x ∷ rows) j 0) e

-- the first attribute is less than all others
first-least : (a x : ℕ) (rows : List ℕ) → is_table (a ∷ x ∷ rows) ≡ true → (i : ℕ) → i < row_count rows → a < attribute_at rows i
unfolding is_table
first-least a x [] e i h = absurd (omega arith)
first-least a x (b ∷ []) e i h = absurd (omega arith)
first-least a x (b ∷ y ∷ rows) e zero h = ltb-true a b (both (ltb a b) _ e).0
first-least a x (b ∷ y ∷ rows) e (suc i) h =
    let p = both (ltb a b) (is_table (b ∷ y ∷ rows)) e in
    let l : b < attribute_at rows i = first-least b y rows p.1 i (omega arith) in
    rw (attribute-on b y rows i) (omega (arith, ltb-true a b p.0))

-- so the attributes ascend
pub attributes-ascend : (t : List ℕ) → is_table t ≡ true → (i j : ℕ) → i < j → j < row_count t → attribute_at t i < attribute_at t j
unfolding is_table
attributes-ascend [] e i j l h = absurd (omega arith)
attributes-ascend (a ∷ []) e i j l h = absurd (omega arith)
attributes-ascend (a ∷ x ∷ rows) e i zero l h = absurd (omega arith)
attributes-ascend (a ∷ x ∷ rows) e zero (suc j) l h = rw (attribute-on a x rows j) (first-least a x rows e j (omega arith))
attributes-ascend (a ∷ x ∷ rows) e (suc i) (suc j) l h =
    rw (attribute-on a x rows i, attribute-on a x rows j) (attributes-ascend rows (table-rest a x rows e) i j (omega arith) (omega arith))

-- a row gives its attribute its type
pub row-types : (t : List ℕ) → is_table t ≡ true → (i : ℕ) → i < row_count t
    → (is_typed t (attribute_at t i) ≡ true) × (type_of t (attribute_at t i) ≡ get_or t (2 * i + 1) 0)
unfolding is_typed type_of
row-types [] e i h = absurd (omega arith)
row-types (a ∷ []) e i h = absurd (omega arith)
row-types (a ∷ x ∷ rows) e zero h = let s = eq-eqb a a refl in (rw s, rw s)
row-types (a ∷ x ∷ rows) e (suc i) h =
    let l : a < attribute_at rows i = first-least a x rows e i (omega arith) in
    let n = ne_eqb a (attribute_at rows i) (λ q. omega arith) in
    let r = row-types rows (table-rest a x rows e) i (omega arith) in
    rw (attribute-on a x rows i, type-on a x rows i, n) r

-- an attribute that no row has
pub no_row : (t : List ℕ) (a : ℕ) → ((i : ℕ) → i < row_count t → attribute_at t i ≡ a → ⊥) → (is_typed t a ≡ false) × (type_of t a ≡ 0)
unfolding is_typed type_of
no_row [] a none = (refl, refl)
no_row (b ∷ []) a none = (refl, refl)
no_row (b ∷ x ∷ rows) a none =
    let n = ne_eqb b a (none 0 (omega arith)) in
    let r = no_row rows a (λ i h q. none (suc i) (omega arith) (attribute-on b x rows i ∙ q)) in
    rw n r

-- rows whose attributes ascend are a table
ascends-table : (t : List ℕ) → length t % 2 ≡ 0 → ((i : ℕ) → i + 1 < row_count t → attribute_at t i < attribute_at t (i + 1)) → is_table t ≡ true
unfolding is_table
ascends-table [] e up = refl
ascends-table (a ∷ []) e up = absurd (omega arith)
ascends-table (a ∷ x ∷ []) e up = refl
ascends-table (a ∷ x ∷ b ∷ rows) e up =
    rw (
      lt-ltb a b (up 0 (omega arith)),
      ascends-table (b ∷ rows) (omega arith)
          (λ i h.
          let e : suc i + 1 ≡ suc (i + 1) = omega arith in
          rw (e, attribute-on a x (b ∷ rows) i, attribute-on a x (b ∷ rows) (i + 1)) at (up (suc i) (omega arith))),
    )

-- a word of a row
word-in-row : (t : List ℕ) (n i j : ℕ) (d : List ℕ) → j < 2 → i < n → get_or (get_or (first_chunks 2 n t) i d) j 0 ≡ get_or t (2 * i + j) 0
word-in-row t zero i j d h l = absurd (omega arith)
word-in-row t (suc n) zero j d h l = rw (zero-add j) (get_or-take 2 t j 0 h)
word-in-row t (suc n) (suc i) j d h l =
    let e : 2 + (2 * i + j) ≡ 2 * suc i + j = omega arith in
    word-in-row (drop 2 t) n i j d h (omega arith) ∙ get_or-drop 2 t (2 * i + j) 0 ∙ ap (λ (k : ℕ). get_or t k 0) e

module _ (t : List ℕ) (rows : List (List ℕ)) (same : rows ≡ first_chunks 2 (row_count t) t) (long : length rows ≡ row_count t) where
  attribute-in : (i : ℕ) (d : List ℕ) → i < row_count t → get_or (get_or rows i d) 0 0 ≡ attribute_at t i
  attribute-in i d h = let e : 2 * i + 0 ≡ 2 * i = omega arith in rw same (word-in-row t (row_count t) i 0 d (omega arith) h ∙ ap (λ (k : ℕ). get_or t k 0) e)

  type-in : (i : ℕ) (d : List ℕ) → i < row_count t → get_or (get_or rows i d) 1 0 ≡ get_or t (2 * i + 1) 0
  type-in i d h = rw same (word-in-row t (row_count t) i 1 d (omega arith) h)

  -- what the test of each row and the next says
  pub rows-tested : length t % 2 ≡ 0 → (r : Bool) → IsAllAdjacentAnswer (λ x y b. b ≡ ltb (get_or x 0 0) (get_or y 0 0)) rows r → r ≡ is_table t
  rows-tested even true all =
      sym (ascends-table t even
      (λ i h. omega (arith, ltb-true _ _ (sym (all i [] (omega arith))), attribute-in i [] (omega arith), attribute-in (i + 1) [] h)))
  rows-tested even false some = go (is_table t) refl
    where
      go : (b : Bool) → is_table t ≡ b → false ≡ is_table t
      go false e = sym e
      go true e =
          let k = some.0 in
          let h : k + 1 < row_count t = omega (arith, some.1) in
          absurd
          (omega (arith, ltb-false _ _ (sym (some.2 [])), attribute-in k [] (omega arith), attribute-in (k + 1) [] h, attributes-ascend t e k (k + 1) (omega arith) h))

  module _ (e : is_table t ≡ true) (a : ℕ) where
    -- the comparisons rise, as the search by halves asks
    rises : IsNonDecreasingBy (λ row. ordering_index (nat_cmp (get_or row 0 0) a)) rows
    rises = IsNonDecreasingBy-from_default (λ row. ordering_index (nat_cmp (get_or row 0 0) a)) rows [] (λ i j l h.
        let up : attribute_at t i ≤ attribute_at t j =
        ⊎_elim (λ (q : i ≡ j). rw q (omega arith)) (λ (q : i < j). omega (arith, attributes-ascend t e i j q (omega arith))) (eq-or-lt_of_le l) in
        rw (attribute-in i [] (omega arith), attribute-in j [] (omega arith)) (grind (arith, nat_tests)))

    -- the row that the search finds has the attribute
    pub found : (i : ℕ) → i < length rows → HoldsAt (λ row. nat_cmp (get_or row 0 0) a ≡ Equal) rows i → Some (get_or (get_or rows i []) 1 0) ≡ found_in t a
    found i h equal =
        let l : i < row_count t = omega arith in
        let q : attribute_at t i ≡ a = sym (attribute-in i [] l) ∙ ranked _ a _ (sym (equal [])) in
        let r = row-types t e i l in
        rw (← q, type-in i [] l, r.0, r.1)

    -- or none has it
    pub not_found : (i : ℕ)
        → (IsNonDecreasingBy (λ row. ordering_index (nat_cmp (get_or row 0 0) a)) rows
        → IsPartitionPoint (λ row. nat_cmp (get_or row 0 0) a ≡ Less) (λ row. nat_cmp (get_or row 0 0) a ≡ Greater) rows i)
        → None ≡ found_in t a
    not_found i parted = let r = no_row t a none in rw r.0
      where
        none : (k : ℕ) → k < row_count t → attribute_at t k ≡ a → ⊥
        none k h q =
            ⊎_elim
            (λ (below : k < i). let l = ranked _ a _ (sym ((parted rises).0 k [] (omega arith) below)) in omega (arith, l, attribute-in k [] h))
            (λ (above : i ≤ k). let l = ranked _ a _ (sym ((parted rises).1 k [] above (omega arith))) in omega (arith, l, attribute-in k [] h))
            (lt-or-ge k i)
