-- No second answer fits the promises of this crate; that of `range` says which answer only of an ascending table.
use mathlib.Core.Path.{◌≡◌, sym, ◌∙◌}
use mathlib.Core.Logic.{⊎_elim}
use mathlib.Core.Bool.{true}
use mathlib.Core.List.{List}
use Prim.Native.Nat.{ℕ, ◌≤◌, ◌<◌}
use native.Mathlib.Omega.{arith}
use native.Mathlib.Nat.{eq-or-lt_of_le}
use Rattle.refusal.specs.Verdict.{Verdict}
use Rattle.refusal.proofs.OneAnswer.{one_answer}
use Rattle.tables.specs.Rows.{rows_of, ascending, FirstRow, Range}
use Rattle.tables.specs.Check.{tables_fault}
use Rattle.tables.proofs.Order.{no-yes, lt-or-ge}

-- `Tables::check`
pub check-one : (ae av ea : List ℕ) (r r' : Verdict) → r ≡ tables_fault ae av ea → r' ≡ tables_fault ae av ea → r ≡ r'
check-one ae av ea r r' = one_answer

module _ (t : List ℕ) (asc : ascending (rows_of t) ≡ true) where
  -- of two first rows none is below the other: it would come before the key, and not
  no_less : (ks : List ℕ) (r r' : ℕ) → FirstRow t ks r → FirstRow t ks r' → r < r' → ⊥
  no_less ks r r' b b' l = no-yes (b.not_before asc r (omega arith) (omega (arith, b'.within))) (b'.below asc r l)

  first_one : (ks : List ℕ) (r r' : ℕ) → FirstRow t ks r → FirstRow t ks r' → r ≡ r'
  first_one ks r r' b b' =
      ⊎_elim (λ (l : r < r'). absurd (no_less ks r r' b b' l))
      (λ (l : r' ≤ r). ⊎_elim (λ (q : r' ≡ r). sym q) (λ (q : r' < r). absurd (no_less ks r' r b' b q)) (eq-or-lt_of_le l))
      (lt-or-ge r r')

  -- `range`: the part, and where it begins
  pub range-one : (ks r r' : List ℕ) (i i' : ℕ) → Range t ks r i → Range t ks r' i' → (r ≡ r') × (i ≡ i')
  range-one ks r r' i i' p q = (p.rows asc ∙ sym (q.rows asc), first_one ks i i' p.starts q.starts)
