-- 02, Ticket 1: the type of every variable (003, `infer_types`).
use Rattle.std.specs.Prelude.{ℕ, ◌+◌, List, [], ◌∷◌, ◌++◌, Bool, true, false, not, ◌&&◌, ◌||◌, cond, replicate, ltb, eqb}
use Rattle.capacity.specs.Capacity.{max_slots}
use Rattle.refusal.specs.Verdict.{Verdict}
use Rattle.std.specs.Prelude.{Ok}
use Rattle.refusal.specs.Verdict.{refuse_if, or_else, unless}
use Rattle.lists.specs.Padded.{padded}
use Rattle.lists.specs.Tabled.{tabled}
use Rattle.query.specs.declared.QueryValue.{QueryValue}
use Rattle.query.specs.declared.QueryValue.TheVariants.{Const, Var as Variable}
use Rattle.query.specs.declared.Statement.{Statement}
use Rattle.query.specs.declared.Query.{Query}
use Rattle.query.specs.Query.{statements_of, is_variable}
use Rattle.planner.specs.Refusals.{plan_fault}
use Rattle.types.specs.Answered.{Inferred}

-- a table of (attribute, type): of even length, and strictly ascending by attribute
unfoldable pub is_table : List ℕ → Bool
is_table [] = true
is_table (a ∷ []) = false
is_table (a ∷ t ∷ []) = true
is_table (a ∷ t ∷ b ∷ rows) = ltb a b && is_table (b ∷ rows)

-- an attribute is in the table
unfoldable pub is_typed : List ℕ → ℕ → Bool
is_typed [] a = false
is_typed (b ∷ []) a = false
is_typed (b ∷ t ∷ rows) a = eqb b a || is_typed rows a

-- its type
unfoldable pub type_of : List ℕ → ℕ → ℕ
type_of [] a = 0
type_of (b ∷ []) a = 0
type_of (b ∷ t ∷ rows) a = cond (eqb b a) t (type_of rows a)

-- type 0 means reference
abbrev pub reference : ℕ
reference = 0

-- an entity is always a reference; a variable value takes its attribute's type; so a variable has the type that the first statement to
-- name it gives it
unfoldable pub type_given : List ℕ → List Statement → ℕ → ℕ
type_given table [] v = 0
type_given table (s ∷ ss) v =
    cond (eqb s.entity.0 v) reference (cond (is_variable s.value v) (type_of table s.attribute.0) (type_given table ss v))

-- a variable that these statements name is used as another type than theirs
abbrev pub clashes : List ℕ → List Statement → ℕ → ℕ → Bool
clashes table ss v t = not (eqb (type_given table ss v) t)

-- a constant is skipped
abbrev pub value_clashes : List ℕ → List Statement → QueryValue → ℕ → Bool
value_clashes table ss (Const c) t = false
value_clashes table ss (Variable x) t = clashes table ss x.0 t

-- statement i after those before it: 52, entity clash; 51, attribute not in the table, a constant's too; 52, value clash. The statement
-- itself counts: of (x, a, x) the entity's use makes x a reference
abbrev pub statement_type_fault : List ℕ → List Statement → Statement → ℕ → Verdict
statement_type_fault table before s i =
    or_else (refuse_if (clashes table (before ++ (s ∷ [])) s.entity.0 reference) 52 i)
    (or_else (refuse_if (not (is_typed table s.attribute.0)) 51 i)
    (refuse_if (value_clashes table (before ++ (s ∷ [])) s.value (type_of table s.attribute.0)) 52 i))

-- statement by statement, from number i on
unfoldable pub statements_type_fault : List ℕ → List Statement → List Statement → ℕ → Verdict
statements_type_fault table before [] i = Ok tt
statements_type_fault table before (s ∷ ss) i = or_else (statement_type_fault table before s i) (statements_type_fault table (before ++ (s ∷ [])) ss (i + 1))

-- after planning's own checks 50, table of odd length or not ascending; then statement by statement
unfoldable pub types_fault : Query → List ℕ → Verdict
types_fault q table = or_else (plan_fault q) (or_else (refuse_if (not (is_table table)) 50 0) (statements_type_fault table [] (statements_of q) 0))

-- the answer is one type per variable, zeros past them, and all zeros on a refusal
abbrev pub not_inferred : Verdict → Inferred
not_inferred v = record { verdict = v; types = replicate max_slots 0 }

unfoldable pub inferred_of : Query → List ℕ → Inferred
inferred_of q table =
    unless (types_fault q table) not_inferred
    (record { verdict = Ok tt; types = padded 0 max_slots (tabled (type_given table (statements_of q)) q.variable_count) })
