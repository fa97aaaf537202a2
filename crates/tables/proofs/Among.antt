-- A row is found by its bound: no row before the bound is it, and if the one at the bound is not, no later one is.
use mathlib.Core.Path.{◌≡◌, refl, sym, ◌∙◌}
use mathlib.Core.Logic.{⊎_elim}
use mathlib.Core.Bool.{Bool, true, false}
use mathlib.Core.List.{List}
use Prim.Native.Nat.{ℕ, ◌≤◌, ◌<◌}
use native.Mathlib.Omega.{arith}
use lib.ListN.{length}
use Rattle.datom.specs.Fact.{words}
use Rattle.tables.specs.Rows.{count, row, rows_of, ascending, begins, FirstRow}
use Rattle.tables.specs.Check.{same_row, is_among}
use Rattle.tables.proofs.Order.{no-yes, lt-or-ge, same-begins, before-begins}
use Rattle.tables.proofs.Table.{row-length, among-at, among_none}
use Rattle.tables.proofs.Search.{past-falls}

module _ (t r : List ℕ) (i : ℕ) (long : length r ≡ words) (b : FirstRow t r i) (asc : ascending (rows_of t) ≡ true) where
  -- a row is r if it begins with r
  same : (k : ℕ) → k < count t → same_row r (row t k) ≡ begins (row t k) r
  same k h = same-begins r (row t k) (row-length t k h ∙ sym long)

  -- where no row from the bound on begins with r, r is not there
  absent : ((k : ℕ) → i ≤ k → k < count t → begins (row t k) r ≡ false) → is_among r (rows_of t) ≡ false
  absent none =
      among_none r (row t) 0 (count t)
      (λ k _ h.
      same k (omega arith) ∙
      ⊎_elim (λ (l : k < i). before-begins (row t k) r (b.below asc k l)) (λ (l : i ≤ k). none k l (omega arith)) (lt-or-ge k i))

  -- the row at the bound decides
  pub among-bound : i < count t → begins (row t i) r ≡ is_among r (rows_of t)
  among-bound h = go (begins (row t i) r) refl
    where
      later : begins (row t i) r ≡ false → (k : ℕ) → i ≤ k → k < count t → (found : Bool) → begins (row t k) r ≡ found → begins (row t k) r ≡ false
      later e k l g false f = f
      later e k l g true f = no-yes e (past-falls b asc i k (omega arith) l g f)

      go : (found : Bool) → begins (row t i) r ≡ found → begins (row t i) r ≡ is_among r (rows_of t)
      go true e = e ∙ sym (among-at r (row t) 0 (count t) i (omega arith) (omega arith) (same i h ∙ e))
      go false e = e ∙ sym (absent (λ k l g. later e k l g (begins (row t k) r) refl))

  -- and where there is none, r is not there
  pub among-past : count t ≤ i → false ≡ is_among r (rows_of t)
  among-past h = sym (absent (λ k l g. absurd (omega arith)))
