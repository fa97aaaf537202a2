-- 01, "How a query becomes a plan".
use Rattle.std.specs.Prelude.{ℕ, ◌+◌, List, [], ◌∷◌, ◌++◌, map, Bool, true, false, replicate}
use Rattle.capacity.specs.Capacity.{max_scans, max_slots, max_selects}
use Rattle.refusal.specs.Verdict.{Verdict}
use Rattle.std.specs.Prelude.{Ok}
use Rattle.refusal.specs.Verdict.{unless}
use Rattle.lists.specs.Padded.{padded}
use Rattle.datom.specs.declared.Aid.{Aid}
use Rattle.query.specs.declared.Var.{Var}
use Rattle.query.specs.declared.QueryValue.{QueryValue}
use Rattle.query.specs.declared.QueryValue.TheVariants.{Const, Var as Variable}
use Rattle.query.specs.declared.Statement.{Statement}
use Rattle.query.specs.declared.Query.{Query}
use Rattle.query.specs.Query.{statements_of, selects_of, named}
use Rattle.plan.specs.declared.Slot.{Slot}
use Rattle.plan.specs.declared.Scan.{Scan}
use Rattle.plan.specs.declared.SlotRecord.{SlotRecord}
use Rattle.plan.specs.declared.SlotDefinition.TheVariants.{Constant}
use Rattle.plan.specs.declared.Plan.{Plan}
use Rattle.plan.specs.declared.Index.TheVariants.{Aevt, Avet}
use Rattle.plan.specs.declared.Flow.TheVariants.{OutOut, InOut, InIn}
use Rattle.plan.specs.Plan.{zero_slot, zero_scan, variable_slot, empty_plan}
use Rattle.query_check.specs.Refusals.{constants_in, constants}
use Rattle.planner.specs.Answered.{Planned}
use Rattle.planner.specs.Answered.{Initialized}
use Rattle.planner.specs.Refusals.{bound_twice_fault, plan_fault}

-- variable i is slot i
abbrev pub slot_of : Var → Slot
slot_of v = record { 0 = v.0 }

-- each constant, at each occurrence, takes the next slot
abbrev pub constant_slots : QueryValue → List SlotRecord
constant_slots (Const c) = record { definition = Constant c } ∷ []
constant_slots (Variable x) = []

unfoldable pub slots_of_constants : List Statement → List SlotRecord
slots_of_constants [] = []
slots_of_constants (s ∷ ss) = constant_slots s.value ++ slots_of_constants ss

-- a value's slot, where k is the next for a constant
abbrev pub value_slot : QueryValue → ℕ → Slot
value_slot (Const c) k = record { 0 = k }
value_slot (Variable x) k = slot_of x

-- constants start set; a variable is set once a statement named it
abbrev pub is_value_set : List Statement → QueryValue → Bool
is_value_set before (Const c) = true
is_value_set before (Variable x) = named before x.0

-- entity and value both set, in-in over aevt; only the value set, in-out over avet; only the entity set, in-out over aevt; neither,
-- out-out over aevt
abbrev pub scan_for : Bool → Bool → Slot → Aid → Slot → Scan
scan_for true true e a v = record { index = Aevt; flow = InIn; entity = e; attribute = a; value = v }
scan_for false true e a v = record { index = Avet; flow = InOut; entity = e; attribute = a; value = v }
scan_for true false e a v = record { index = Aevt; flow = InOut; entity = e; attribute = a; value = v }
scan_for false false e a v = record { index = Aevt; flow = OutOut; entity = e; attribute = a; value = v }

-- the scan of a statement after those before it, where k is the next slot for a constant
unfoldable pub scan_of : List Statement → Statement → ℕ → Scan
scan_of before s k = scan_for (named before s.entity.0) (is_value_set before s.value) (slot_of s.entity) s.attribute (value_slot s.value k)

-- one scan per statement, in order
unfoldable pub scans_for : List Statement → List Statement → ℕ → List Scan
scans_for before [] k = []
scans_for before (s ∷ ss) k = scan_of before s k ∷ scans_for (before ++ (s ∷ [])) ss (k + constants_in s.value)

-- the slots: the variables, then the constants
abbrev pub slots_for : ℕ → List Statement → List SlotRecord
slots_for n ss = replicate n variable_slot ++ slots_of_constants ss

-- the scans of statements and how many slots they name: variables + constants; or 16, and zeros
abbrev pub not_initialized : Verdict → Initialized
not_initialized v = record { verdict = v; scans = replicate max_scans zero_scan; slot_count = 0 }

unfoldable pub initialized_of : ℕ → List Statement → Initialized
initialized_of n ss =
    unless (bound_twice_fault [] ss 0) not_initialized
    (record { verdict = Ok tt; scans = padded zero_scan max_scans (scans_for [] ss n); slot_count = n + constants ss })

-- the plan of a query and its statements, as given or in another order: past its counts variable slots, out-out aevt scans and selects,
-- all numbers 0
unfoldable pub plan_for : Query → List Statement → Plan
plan_for q ss = record {
  scans = padded zero_scan max_scans (scans_for [] ss q.variable_count);
  scan_count = q.where_statements.count;
  slots = padded variable_slot max_slots (slots_for q.variable_count ss);
  slot_count = q.variable_count + constants ss;
  select = padded zero_slot max_selects (map slot_of (selects_of q));
  select_count = q.select.count;
}

-- what planning answers; where it refuses, the empty plan
unfoldable pub plan_of : Query → Planned
plan_of q =
    unless (plan_fault q) (λ v. record { verdict = v; plan = empty_plan })
    (record { verdict = Ok tt; plan = plan_for q (statements_of q) })
