-- The record of what is set (01, "Code places and their forms"): what the private functions of planning keep. proofs/Tracks.antt shows that
-- it says which variables the statements so far name.
use Rattle.std.specs.Prelude.{◌≡◌, ℕ, ◌+◌, ◌≤◌, List, Bool, true, false, not, ◌&&◌, get_or, set, take}
use Rattle.capacity.specs.Capacity.{max_statements, max_slots}
use Rattle.std.specs.Prelude.{Ok}
use Rattle.query.specs.declared.QueryValue.{QueryValue}
use Rattle.query.specs.declared.QueryValue.TheVariants.{Const, Var as Variable}
use Rattle.query.specs.declared.Statement.{Statement}
use Rattle.query.specs.Query.{is_variable}
use Rattle.query_check.specs.Refusals.{constants, statements_fault}
use Rattle.plan.specs.declared.Scan.{Scan}
use Rattle.plan.specs.declared.SlotRecord.{SlotRecord}
use Rattle.plan.specs.declared.SlotDefinition.TheVariants.{Constant}
use Rattle.planner.specs.Planning.{slot_of, value_slot, scan_for}

-- what the check of a query leaves of its statements
pub record Plannable (variables count : ℕ) (items : List Statement) : Type 0 where
  pub few_statements : count ≤ max_statements
  pub few_slots : variables + constants (take count items) ≤ max_slots
  pub low : statements_fault variables (take count items) 0 ≡ Ok tt

abbrev pub is_value_set_in : List Bool → QueryValue → Bool
is_value_set_in rec (Const c) = true
is_value_set_in rec (Variable x) = get_or rec x.0 false

abbrev pub binds_twice_in : List Bool → Statement → Bool
binds_twice_in rec s = is_variable s.value s.entity.0 && not (get_or rec s.entity.0 false)

unfoldable pub scan_in : List Bool → Statement → ℕ → Scan
scan_in rec s k = scan_for (get_or rec s.entity.0 false) (is_value_set_in rec s.value) (slot_of s.entity) s.attribute (value_slot s.value k)

-- the record once a statement has its scan
abbrev pub value_record : List Bool → QueryValue → List Bool
value_record rec (Const c) = rec
value_record rec (Variable x) = set rec x.0 true

unfoldable pub statement_record : List Bool → Statement → List Bool
statement_record rec s = value_record (set rec s.entity.0 true) s.value

-- the slots once a constant has its own
abbrev pub constant_in : List SlotRecord → ℕ → QueryValue → List SlotRecord
constant_in slots k (Const c) = set slots k (record { definition = Constant c })
constant_in slots k (Variable x) = slots
