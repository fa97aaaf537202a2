-- 01, "Tables and rows": what a plan visits over three tables, and the list of rows that it yields.
use Rattle.tables.specs.declared.Tables.{Tables as LentTables}
use Rattle.std.specs.Prelude.{ℕ, ◌+◌, List, [], ◌∷◌, ◌++◌, map, get_or, set, take}
use Rattle.datom.specs.Fact.{Fact, aevt_row, avet_row, eavt_row}
use Rattle.tables.specs.Rows.{row, matching, fact_of}
use Rattle.plan.specs.declared.Slot.{Slot}
use Rattle.plan.specs.declared.Scan.{Scan}
use Rattle.plan.specs.declared.SlotRecord.{SlotRecord}
use Rattle.plan.specs.declared.SlotDefinition.{SlotDefinition}
use Rattle.plan.specs.declared.SlotDefinition.TheVariants.{Variable, Constant}
use Rattle.plan.specs.declared.Plan.{Plan}
use Rattle.plan.specs.declared.Index.{Index}
use Rattle.plan.specs.declared.Index.TheVariants.{Aevt, Avet, Eavt}
use Rattle.plan.specs.declared.Flow.{Flow}
use Rattle.plan.specs.declared.EntityValueFlow.{EntityValueFlow}
use Rattle.plan.specs.declared.EntityValueFlow.TheVariants.{OutOut as BothOut, InOut as EntityIn, OutIn as ValueIn, InIn as BothIn}
use Rattle.plan.specs.Codes.{flow_code}
use Rattle.plan.specs.Plan.{entity_value_flow, scans_of, slots_of, slots_selected}

-- the three tables
pub record Tables : Type 0 where
  pub aevt : List ℕ
  pub avet : List ℕ
  pub eavt : List ℕ

abbrev pub tables_of : List ℕ → List ℕ → List ℕ → Tables
tables_of a b c = record { aevt = a; avet = b; eavt = c }

-- those that are lent
abbrev pub lent : LentTables → Tables
lent t = tables_of t.aevt.now t.avet.now t.eavt.now

abbrev pub table_of : Tables → Index → List ℕ
table_of ts Aevt = ts.aevt
table_of ts Avet = ts.avet
table_of ts Eavt = ts.eavt

-- how a fact lies in a row of an index, and the fact that lies in a row
abbrev pub row_for : Index → Fact → List ℕ
row_for Aevt f = aevt_row f
row_for Avet f = avet_row f
row_for Eavt f = eavt_row f

abbrev pub fact_in : Index → List ℕ → Fact
fact_in Aevt r = fact_of r
fact_in Avet r = record { attribute = get_or r 0 0; value = get_or r 1 0; entity = get_or r 2 0 }
fact_in Eavt r = record { entity = get_or r 0 0; attribute = get_or r 1 0; value = get_or r 2 0 }

-- how many of its two slots a scan reads: they come first in index order
abbrev pub inputs : Flow → ℕ
inputs f = flow_code f

-- what a scan's attribute and slots say, where the slots hold these values
abbrev pub wanted : Scan → List ℕ → Fact
wanted s slots = record { entity = get_or slots s.entity.0 0; attribute = s.attribute.0; value = get_or slots s.value.0 0 }

-- a scan visits the rows that match its attribute and inputs, in table order: their numbers
unfoldable pub visited : Tables → Scan → List ℕ → List ℕ
visited ts s slots = matching (table_of ts s.index) (take (1 + inputs s.flow) (row_for s.index (wanted s slots)))

-- a fact's entity and value are written to the slots that the scan writes
abbrev pub with_fact : EntityValueFlow → Slot → Slot → Fact → List ℕ → List ℕ
with_fact BothOut e v f slots = set (set slots e.0 f.entity) v.0 f.value
with_fact EntityIn e v f slots = set slots v.0 f.value
with_fact ValueIn e v f slots = set slots e.0 f.entity
with_fact BothIn e v f slots = slots

-- the slots where a scan stands at row k of its table
unfoldable pub standing : Tables → Scan → List ℕ → ℕ → List ℕ
standing ts s slots k = with_fact (entity_value_flow s.flow s.index) s.entity s.value (fact_in s.index (row (table_of ts s.index) k)) slots

-- the lists of each number, one after the other
unfoldable pub each : List ℕ → (ℕ → List (List ℕ)) → List (List ℕ)
each [] f = []
each (k ∷ ks) f = f k ++ each ks f

-- scan 0 is outermost: for each row that it visits, what the scans inside it visit from there. A visit is the list of the rows at which the
-- scans stand
unfoldable pub visits : Tables → List Scan → List ℕ → List (List ℕ)
visits ts [] slots = [] ∷ []
visits ts (s ∷ ss) slots = each (visited ts s slots) (λ k. map (λ w. k ∷ w) (visits ts ss (standing ts s slots k)))

-- the slots at a visit
unfoldable pub slots_at : Tables → List Scan → List ℕ → List ℕ → List ℕ
slots_at ts [] slots w = slots
slots_at ts (s ∷ ss) slots [] = slots
slots_at ts (s ∷ ss) slots (k ∷ w) = slots_at ts ss (standing ts s slots k) w

-- before any scan a constant's slot holds its value, and a variable's 0
abbrev pub start_value : SlotDefinition → ℕ
start_value Variable = 0
start_value (Constant v) = v

abbrev pub initial_slots : Plan → List ℕ
initial_slots p = map (λ (s : SlotRecord). start_value s.definition) (slots_of p)

-- each innermost visit yields one row of selected slots; rows aren't deduplicated
abbrev pub selected : List Slot → List ℕ → List ℕ
selected ks slots = map (λ (k : Slot). get_or slots k.0 0) ks

unfoldable pub row_list : Plan → Tables → List (List ℕ)
row_list p ts = map (λ w. selected (slots_selected p) (slots_at ts (scans_of p) (initial_slots p) w)) (visits ts (scans_of p) (initial_slots p))
