-- docs/LAYOUT.md, "What the numbers say": the query, and the names.
use Rattle.std.specs.Prelude.{ℕ, ◌+◌, ◌-◌, ◌*◌, min, Bool, cond, ◌&&◌, List, ◌++◌, length, drop, get_or, leb, ltb, eqb}
use Rattle.capacity.specs.Capacity.{max_statements, max_selects}
use Rattle.lists.specs.Padded.{padded}
use Rattle.lists.specs.Tabled.{tabled}
use Rattle.query.specs.declared.Var.{Var}
use Rattle.query.specs.declared.QueryValue.{QueryValue}
use Rattle.query.specs.declared.QueryValue.TheVariants.{Const, Var as Variable}
use Rattle.query.specs.declared.Statement.{Statement}
use Rattle.query.specs.declared.Statements.{Statements}
use Rattle.query.specs.declared.Selects.{Selects}
use Rattle.query.specs.declared.Query.{Query}
use Rattle.query.specs.Query.{largest, zero_var, zero_statement}
use Rattle.ask_question.specs.declared.Parts.{Parts}
use Rattle.ask_question.specs.Parts.{parts_of, items_of, are_bytes}

-- a variable's number
unfoldable pub asked_var : ℕ → Var
asked_var n = record { 0 = min n largest }

-- kind 0 is a variable, the other a constant
unfoldable pub asked_value : ℕ → ℕ → QueryValue
asked_value kind v = cond (eqb kind 0) (Variable (asked_var v)) (Const v)

-- statement i: its entity, its attribute, and its value's kind and number
unfoldable pub asked_statement : List ℕ → ℕ → Statement
asked_statement ws i =
    record {
      entity = asked_var (get_or ws (i * 4) 0);
      attribute = record { 0 = get_or ws (i * 4 + 1) 0 };
      value = asked_value (get_or ws (i * 4 + 2) 0) (get_or ws (i * 4 + 3) 0);
    }

-- as many as fit, zeros past them, and the count of all
unfoldable pub asked_statements : List ℕ → ℕ → Statements
asked_statements ws n = record { items = padded zero_statement max_statements (tabled (asked_statement ws) (min n max_statements)); count = n }

unfoldable pub asked_selects : List ℕ → ℕ → Selects
asked_selects ws n = record { items = padded zero_var max_selects (tabled (λ i. asked_var (get_or ws i 0)) (min n max_selects)); count = n }

-- the query that is asked
unfoldable pub query_with : List ℕ → Parts → Query
query_with ws ps =
    record {
      variable_count = get_or ws 1 0;
      where_statements = asked_statements (items_of ws ps.statements) ps.statements.count;
      select = asked_selects (items_of ws ps.selects) ps.selects.count;
    }

-- by the parts that are found
abbrev pub query_of : List ℕ → Query
query_of ws = query_with ws (parts_of ws)

-- the names are bytes, and there is room for them
unfoldable pub bytes_fit : List ℕ → ℕ → Bool
bytes_fit ws room = leb (length ws) room && are_bytes ws

-- they stand in front of the buffer; else nothing is written
unfoldable pub bytes_after : List ℕ → List ℕ → List ℕ
bytes_after ws buffer = cond (bytes_fit ws (length buffer)) (ws ++ drop (length ws) buffer) buffer

-- the end of slot i's name: the one that is given, and past these the last
unfoldable pub end_of : List ℕ → ℕ → ℕ
end_of ws i = cond (ltb i (length ws)) (get_or ws i 0) (cond (eqb (length ws) 0) 0 (get_or ws (length ws - 1) 0))

-- a buffer of ends
abbrev pub ends_after : List ℕ → ℕ → List ℕ
ends_after ws room = tabled (end_of ws) room

-- how many ends there are: those given, and one for each constant, as far as there is room
unfoldable pub ends_count : ℕ → ℕ → ℕ → ℕ
ends_count given constants room = min (given + constants) room
