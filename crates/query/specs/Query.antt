-- 01, "What crosses the counter": a query's statements and selects, and the variables that statements name.
use Rattle.std.specs.Prelude.{ℕ, List, [], ◌∷◌, Bool, false, ◌||◌, take, eqb}
use Rattle.query.specs.declared.Var.{Var}
use Rattle.query.specs.declared.QueryValue.{QueryValue}
use Rattle.query.specs.declared.QueryValue.TheVariants.{Const, Var as Variable}
use Rattle.query.specs.declared.Statement.{Statement}
use Rattle.query.specs.declared.Query.{Query}

-- the largest number of a variable, and of a slot: it names none (14, 22, 26), and readers take a number past it for this one
abbrev pub largest : ℕ
largest = 65535

-- a query's statements and selects: those below its counts
abbrev pub statements_of : Query → List Statement
statements_of q = take q.where_statements.count q.where_statements.items

abbrev pub selects_of : Query → List Var
selects_of q = take q.select.count q.select.items

-- a value is variable v
abbrev pub is_variable : QueryValue → ℕ → Bool
is_variable (Const c) v = false
is_variable (Variable x) v = eqb x.0 v

-- a statement names variable v, as its entity or as its value
abbrev pub names : Statement → ℕ → Bool
names s v = eqb s.entity.0 v || is_variable s.value v

-- one of the statements names variable v
unfoldable pub named : List Statement → ℕ → Bool
named [] v = false
named (s ∷ ss) v = names s v || named ss v

-- what stands past the last statement and the last select
abbrev pub zero_var : Var
zero_var = record { 0 = 0 }

abbrev pub zero_statement : Statement
zero_statement = record { entity = zero_var; attribute = record { 0 = 0 }; value = Const 0 }
