-- From the answer for the statements to the answer for the query: past its variables the types given are 0.
use mathlib.Core.Path.{◌≡◌, refl, sym, ◌∙◌}
use mathlib.Core.Logic.{⊎_elim}
use Prim.Native.Nat.{ℕ, zero, suc, ◌≤◌, ◌<◌}
use mathlib.Core.List.{List, [], ◌∷◌}
use mathlib.Core.Bool.{true}
use native.Mathlib.Omega.{arith}
use native.Mathlib.Nat.{not-suc-le-zero, le_of_suc-le-suc}
use lib.ListN.{get_or, get_or-eq_default}
use Rattle.capacity.specs.Capacity.{max_slots}
use Rattle.std.specs.Prelude.{Ok}
use Rattle.lists.specs.Padded.{padded}
use Rattle.lists.specs.Tabled.{tabled}
use Rattle.lists.proofs.Padded.{padded-length}
use Rattle.lists.proofs.Tabled.{tabled-length, tabled-at, tabled-same}
use Rattle.tables.proofs.Order.{lt-or-ge}
use Rattle.query.specs.declared.Query.{Query}
use Rattle.query.specs.Query.{statements_of, zero_statement}
use Rattle.query_check.proofs.Variables.{statements-below, below_more}
use Rattle.planner.specs.Refusals.{plan_fault}
use Rattle.types.specs.Types.{is_table, type_given, types_fault, inferred_of}
use Rattle.types.specs.Record.{Typable, inferred_from}
use Rattle.types.proofs.Variables.{plannable, given-past}

-- an element of a padded list is the list's, or the padding
padded-at : {A : Type 0} (z : A) (n : ℕ) (l : List A) (i : ℕ) → i < n → get_or (padded z n l) i z ≡ get_or l i z
unfolding padded
padded-at z zero l i h = absurd (not-suc-le-zero h)
padded-at z (suc n) [] zero h = refl
padded-at z (suc n) [] (suc i) h = padded-at z n [] i (le_of_suc-le-suc h)
padded-at z (suc n) (x ∷ l) zero h = refl
padded-at z (suc n) (x ∷ l) (suc i) h = padded-at z n l i (le_of_suc-le-suc h)

-- a table that is 0 from n on is n elements, and zeros past them
pub zeros_past : (f : ℕ → ℕ) (n m : ℕ) → ((v : ℕ) → n ≤ v → f v ≡ 0) → tabled f m ≡ padded 0 m (tabled f n)
zeros_past f n m none = tabled-same f (padded 0 m (tabled f n)) 0 m (padded-length 0 m (tabled f n)) at
  where
    at : (i : ℕ) → i < m → f i ≡ get_or (padded 0 m (tabled f n)) i 0
    at i h =
        sym (padded-at 0 m (tabled f n) i h ∙
        ⊎_elim (λ (l : i < n). tabled-at f n i 0 l)
        (λ (l : n ≤ i). get_or-eq_default (tabled f n) 0 (rw (tabled-length f n) l) ∙ sym (none i l))
        (lt-or-ge i n))

module _ (q : Query) (fine : plan_fault q ≡ Ok tt) (table : List ℕ) (ascends : is_table table ≡ true) where
  -- what the checks before the statements leave
  pub query-typable : Typable (statements_of q) table
  query-typable = record {
    low = λ i h.
        below_more q.variable_count max_slots (omega (arith, (plannable q fine).few_slots)) _
        (statements-below q.variable_count (statements_of q) 0 (plannable q fine).low i zero_statement h);
    ascends = ascends;
  }

  pub answered : inferred_from (statements_of q) table ≡ inferred_of q table
  unfolding inferred_from inferred_of types_fault
  answered =
      simp (fine, ascends)
      (rw (zeros_past (type_given table (statements_of q)) q.variable_count max_slots (given-past q fine table)))
