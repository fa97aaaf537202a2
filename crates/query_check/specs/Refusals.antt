-- 01, "Refusal numbers": what planning and the search refuse of a query, 10 to 15 ascending, within a number the lowest place.
use Rattle.std.specs.Prelude.{ℕ, ◌+◌, List, [], ◌∷◌, Bool, false, not, ◌||◌, ltb, leb, eqb}
use Rattle.capacity.specs.Capacity.{max_statements, max_slots, max_selects}
use Rattle.lists.specs.Span.{span}
use Rattle.refusal.specs.Verdict.{Verdict}
use Rattle.refusal.specs.Verdict.{refuse_if, or_else, refuse_first}
use Rattle.query.specs.declared.Var.{Var}
use Rattle.query.specs.declared.QueryValue.{QueryValue}
use Rattle.query.specs.declared.QueryValue.TheVariants.{Const, Var as Variable}
use Rattle.query.specs.declared.Statement.{Statement}
use Rattle.query.specs.declared.Query.{Query}
use Rattle.query.specs.Query.{statements_of, selects_of, named}

-- how many of the statements have a constant as their value
abbrev pub constants_in : QueryValue → ℕ
constants_in (Const c) = 1
constants_in (Variable x) = 0

unfoldable pub constants : List Statement → ℕ
constants [] = 0
constants (s ∷ ss) = constants_in s.value + constants ss

-- a statement names a variable that is not below n
abbrev pub high_value : ℕ → QueryValue → Bool
high_value n (Const c) = false
high_value n (Variable x) = leb n x.0

abbrev pub high : ℕ → Statement → Bool
high n s = leb n s.entity.0 || high_value n s.value

-- 14 at the lowest statement from number i on that does, and at the lowest select
unfoldable pub statements_fault : ℕ → List Statement → ℕ → Verdict
statements_fault n ss i = refuse_first (high n) 14 i ss

unfoldable pub selects_fault : ℕ → List Var → ℕ → Verdict
selects_fault n vs i = refuse_first (λ (v : Var). leb n v.0) 14 i vs

-- 15 at the lowest variable that is in no statement, of those from number v on
unfoldable pub unused_fault : List Statement → ℕ → ℕ → Verdict
unused_fault ss left v = refuse_first (λ (u : ℕ). not (named ss u)) 15 v (span v left)

-- more than there is room for: 10 statements; 11 slots, which are variables and constants; 12 selects. 13: no selects
unfoldable pub capacity_fault : ℕ → ℕ → List Statement → ℕ → Verdict
capacity_fault variables statements ss selects =
    or_else (refuse_if (ltb max_statements statements) 10 0)
    (or_else (refuse_if (ltb max_slots (variables + constants ss)) 11 0)
    (or_else (refuse_if (ltb max_selects selects) 12 0) (refuse_if (eqb selects 0) 13 0)))

-- 14: a variable number not below the variable count, at the statement, or statement count + select; 15: a variable in no statement
unfoldable pub variables_fault : ℕ → ℕ → List Statement → List Var → Verdict
variables_fault variables statements ss vs =
    or_else (statements_fault variables ss 0) (or_else (selects_fault variables vs statements) (unused_fault ss variables 0))

unfoldable pub query_fault : Query → Verdict
query_fault q =
    or_else (capacity_fault q.variable_count q.where_statements.count (statements_of q) q.select.count)
    (variables_fault q.variable_count q.where_statements.count (statements_of q) (selects_of q))
