-- The types known so far, in arrays: what the private functions ask and keep. proofs/Tracks.antt shows that they hold what the statements so
-- far give.
use Rattle.std.specs.Prelude.{◌≡◌, ℕ, ◌*◌, ◌/◌, ◌<◌, List, [], Bool, true, not, cond, length, get_or, set, eqb}
use Rattle.capacity.specs.Capacity.{max_slots}
use Rattle.refusal.specs.Verdict.{Verdict}
use Rattle.std.specs.Prelude.{Ok, Option, Some, None, unwrap_or}
use Rattle.refusal.specs.Verdict.{refused, refuse_if, or_else, unless}
use Rattle.lists.specs.Tabled.{tabled}
use Rattle.query.specs.declared.QueryValue.{QueryValue}
use Rattle.query.specs.declared.QueryValue.TheVariants.{Const, Var as Variable}
use Rattle.query.specs.declared.Statement.{Statement}
use Rattle.query.specs.Query.{zero_statement}
use Rattle.query_check.specs.Below.{Below}
use Rattle.types.specs.Answered.{Inferred}
use Rattle.types.specs.Types.{is_table, is_typed, type_of, reference, type_given, statements_type_fault, not_inferred}

-- the words of a row, an attribute and its type; how many rows a table has, and the attribute of row i
abbrev pub row_words : ℕ
row_words = 2

abbrev pub row_count : List ℕ → ℕ
row_count t = length t / row_words

abbrev pub attribute_at : List ℕ → ℕ → ℕ
attribute_at t i = get_or t (row_words * i) 0

-- what the checks before leave of the statements and the table
pub record Typable (ss : List Statement) (table : List ℕ) : Type 0 where
  pub low : (i : ℕ) → i < length ss → Below max_slots (get_or ss i zero_statement)
  pub ascends : is_table table ≡ true

abbrev pub found_in : List ℕ → ℕ → Option ℕ
found_in table a = cond (is_typed table a) (Some (type_of table a)) None

-- the type that a variable has after a use of it as type t: the one that it has, or else this
abbrev pub type_in : List (Option ℕ) → ℕ → ℕ → ℕ
type_in k v t = unwrap_or (get_or k v None) t

abbrev pub unifies_in : List (Option ℕ) → ℕ → ℕ → Bool
unifies_in k v t = eqb (type_in k v t) t

abbrev pub value_unifies_in : List (Option ℕ) → QueryValue → ℕ → Bool
value_unifies_in k (Const c) t = true
value_unifies_in k (Variable x) t = unifies_in k x.0 t

abbrev pub with_type_in : List (Option ℕ) → ℕ → ℕ → List (Option ℕ)
with_type_in k v t = set k v (Some (type_in k v t))

abbrev pub with_value_in : List (Option ℕ) → QueryValue → ℕ → List (Option ℕ)
with_value_in k (Const c) t = k
with_value_in k (Variable x) t = with_type_in k x.0 t

abbrev pub value_type_fault_in : List (Option ℕ) → QueryValue → Option ℕ → ℕ → Verdict
value_type_fault_in k q None i = refused 51 i
value_type_fault_in k q (Some t) i = refuse_if (not (value_unifies_in k q t)) 52 i

unfoldable pub statement_type_fault_in : List (Option ℕ) → Statement → Option ℕ → ℕ → Verdict
statement_type_fault_in k s found i =
    or_else (refuse_if (not (unifies_in k s.entity.0 reference)) 52 i) (value_type_fault_in (with_type_in k s.entity.0 reference) s.value found i)

unfoldable pub with_statement_in : List (Option ℕ) → Statement → ℕ → List (Option ℕ)
with_statement_in k s t = with_value_in (with_type_in k s.entity.0 reference) s.value t

-- the answer for the statements, where there is a place for each variable and past the variables no statement names one
unfoldable pub inferred_from : List Statement → List ℕ → Inferred
inferred_from ss table =
    unless (statements_type_fault table [] ss 0) not_inferred (record { verdict = Ok tt; types = tabled (type_given table ss) max_slots })
