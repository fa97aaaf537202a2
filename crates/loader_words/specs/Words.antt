-- How plans and queries stand as words: every number at a fixed place, and what any words say.
use Rattle.std.specs.Prelude.{ℕ, ◌+◌, ◌*◌, min, Bool, ◌||◌, cond, List, get_or, ltb, eqb}
use Rattle.lists.specs.Tabled.{tabled}
use Rattle.capacity.specs.Capacity.{max_scans, max_slots, max_selects, max_statements}
use Rattle.plan.specs.declared.Slot.{Slot}
use Rattle.plan.specs.declared.Scan.{Scan}
use Rattle.plan.specs.declared.SlotRecord.{SlotRecord}
use Rattle.plan.specs.declared.SlotDefinition.{SlotDefinition}
use Rattle.plan.specs.declared.SlotDefinition.TheVariants.{Variable, Constant}
use Rattle.plan.specs.declared.Plan.{Plan}
use Rattle.plan.specs.declared.Index.{Index}
use Rattle.plan.specs.declared.Index.TheVariants.{Eavt}
use Rattle.plan.specs.declared.Flow.{Flow}
use Rattle.plan.specs.declared.Flow.TheVariants.{OutOut, InIn}
use Rattle.plan.specs.Codes.{index_code, flow_code, index_of_code, flow_of_code}
use Rattle.query.specs.declared.Var.{Var}
use Rattle.query.specs.declared.QueryValue.{QueryValue}
use Rattle.query.specs.declared.QueryValue.TheVariants.{Const, Var as AVar}
use Rattle.query.specs.declared.Statement.{Statement}
use Rattle.query.specs.declared.Query.{Query}
use Rattle.query.specs.Query.{largest}

-- where each part of a plan starts, and how many words a plan has
abbrev pub scan_words : ℕ
scan_words = 5

abbrev pub slot_words : ℕ
slot_words = 2

abbrev pub scans_at : ℕ
scans_at = 3

abbrev pub slots_at : ℕ
slots_at = scans_at + scan_words * max_scans

abbrev pub select_at : ℕ
select_at = slots_at + slot_words * max_slots

abbrev pub plan_words : ℕ
plan_words = select_at + max_selects

-- the same of a query
abbrev pub statement_words : ℕ
statement_words = 4

abbrev pub statements_at : ℕ
statements_at = 3

abbrev pub variables_at : ℕ
variables_at = statements_at + statement_words * max_statements

abbrev pub query_words : ℕ
query_words = variables_at + max_selects

-- a slot's number and a variable's
abbrev pub word_slot : ℕ → Slot
word_slot w = record { 0 = min w largest }

abbrev pub word_var : ℕ → Var
word_var w = record { 0 = min w largest }

-- not an index and a flow: read as out-out over eavt, which is refused (21)
abbrev pub is_no_kind : ℕ → ℕ → Bool
is_no_kind x f = ltb (index_code Eavt) x || ltb (flow_code InIn) f

abbrev pub index_of : ℕ → ℕ → Index
index_of x f = cond (is_no_kind x f) Eavt (index_of_code x)

abbrev pub flow_of : ℕ → ℕ → Flow
flow_of x f = cond (is_no_kind x f) OutOut (flow_of_code f)

-- 1 and a constant; anything else is a variable slot, which a scan must set (24, 25)
abbrev pub definition_of : ℕ → ℕ → SlotDefinition
definition_of k v = cond (eqb k 1) (Constant v) Variable

-- 1 and a constant, 0 and a variable; anything else is a variable that no query has (14)
abbrev pub word_value : ℕ → ℕ → QueryValue
word_value k v = cond (eqb k 1) (Const v) (cond (eqb k 0) (AVar (word_var v)) (AVar (word_var largest)))

-- the word at a place
abbrev pub word : List ℕ → ℕ → ℕ
word ws j = get_or ws j 0

-- scan i, slot i, select i of a plan
abbrev pub scan_at : List ℕ → ℕ → Scan
scan_at ws i =
    let at = scans_at + scan_words * i in
    record {
      index = index_of (word ws at) (word ws (at + 1));
      flow = flow_of (word ws at) (word ws (at + 1));
      entity = word_slot (word ws (at + 2));
      attribute = record { 0 = word ws (at + 3) };
      value = word_slot (word ws (at + 4));
    }

abbrev pub slot_at : List ℕ → ℕ → SlotRecord
slot_at ws i = let at = slots_at + slot_words * i in record { definition = definition_of (word ws at) (word ws (at + 1)) }

abbrev pub selected_at : List ℕ → ℕ → Slot
selected_at ws i = word_slot (word ws (select_at + i))

abbrev pub scans_in : List ℕ → List Scan
scans_in ws = tabled (scan_at ws) max_scans

abbrev pub slots_in : List ℕ → List SlotRecord
slots_in ws = tabled (slot_at ws) max_slots

abbrev pub selects_in : List ℕ → List Slot
selects_in ws = tabled (selected_at ws) max_selects

-- the plan that words say
abbrev pub plan_of_words : List ℕ → Plan
plan_of_words ws = record {
  scans = scans_in ws;
  scan_count = word ws 0;
  slots = slots_in ws;
  slot_count = word ws 1;
  select = selects_in ws;
  select_count = word ws 2;
}

-- statement i, select i of a query
abbrev pub statement_at : List ℕ → ℕ → Statement
statement_at ws i =
    let at = statements_at + statement_words * i in
    record { entity = word_var (word ws at); attribute = record { 0 = word ws (at + 1) }; value = word_value (word ws (at + 2)) (word ws (at + 3)) }

abbrev pub variable_at : List ℕ → ℕ → Var
variable_at ws i = word_var (word ws (variables_at + i))

abbrev pub statements_in : List ℕ → List Statement
statements_in ws = tabled (statement_at ws) max_statements

abbrev pub variables_in : List ℕ → List Var
variables_in ws = tabled (variable_at ws) max_selects

-- the query that words say
abbrev pub query_of_words : List ℕ → Query
query_of_words ws = record {
  variable_count = word ws 0;
  where_statements = record { items = statements_in ws; count = word ws 1 };
  select = record { items = variables_in ws; count = word ws 2 };
}
