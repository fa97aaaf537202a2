-- 01, "How a query becomes a plan" and "Index order of slots": what a plan is made of.
use Rattle.std.specs.Prelude.{◌≡◌, ℕ, ◌≤◌, List, [], ◌∷◌, Bool, true, false, ◌||◌, take, get_or, replicate, length, ltb, eqb}
use Rattle.refusal.specs.Verdict.{Verdict}
use Rattle.refusal.specs.Verdict.{refuse_if, or_else, refuse_first}
use Rattle.capacity.specs.Capacity.{max_scans, max_slots, max_selects}
use Rattle.plan.specs.declared.Slot.{Slot}
use Rattle.plan.specs.declared.Scan.{Scan}
use Rattle.plan.specs.declared.SlotRecord.{SlotRecord}
use Rattle.plan.specs.declared.SlotDefinition.{SlotDefinition}
use Rattle.plan.specs.declared.SlotDefinition.TheVariants.{Variable, Constant}
use Rattle.plan.specs.declared.Plan.{Plan}
use Rattle.plan.specs.declared.Index.{Index}
use Rattle.plan.specs.declared.Index.TheVariants.{Aevt, Avet, Eavt}
use Rattle.plan.specs.declared.Flow.{Flow}
use Rattle.plan.specs.declared.Flow.TheVariants.{OutOut, InOut, InIn}
use Rattle.plan.specs.declared.EntityValueFlow.{EntityValueFlow}
use Rattle.plan.specs.declared.EntityValueFlow.TheVariants.{OutOut as BothOut, InOut as EntityIn, OutIn as ValueIn, InIn as BothIn}
use Rattle.plan.specs.declared.Access.{Access}
use Rattle.plan.specs.declared.Access.TheVariants.{Reads, Writes}
use Rattle.plan.specs.Codes.{index_code}

-- index order: avet is value, entity; the others entity, value
abbrev pub in_order : Index → Slot → Slot → Slot
in_order Aevt e v = e
in_order Avet e v = v
in_order Eavt e v = e

abbrev pub first_slot : Scan → Slot
first_slot s = in_order s.index s.entity s.value

abbrev pub second_slot : Scan → Slot
second_slot s = in_order s.index s.value s.entity

abbrev pub slots_in_order : Scan → List Slot
slots_in_order s = first_slot s ∷ second_slot s ∷ []

-- out-out writes both, in-out reads the first and writes the second, in-in reads both
abbrev pub first_access : Flow → Access
first_access OutOut = Writes
first_access InOut = Reads
first_access InIn = Reads

abbrev pub second_access : Flow → Access
second_access OutOut = Writes
second_access InOut = Writes
second_access InIn = Reads

-- the same, by entity and value
abbrev pub entity_value_flow : Flow → Index → EntityValueFlow
entity_value_flow OutOut x = BothOut
entity_value_flow InOut Aevt = EntityIn
entity_value_flow InOut Avet = ValueIn
entity_value_flow InOut Eavt = EntityIn
entity_value_flow InIn x = BothIn

-- out-out over eavt, which no plan may have
abbrev pub out_out_eavt : Flow → Index → Bool
out_out_eavt OutOut Aevt = false
out_out_eavt OutOut Avet = false
out_out_eavt OutOut Eavt = true
out_out_eavt InOut x = false
out_out_eavt InIn x = false

-- constants start set
abbrev pub is_constant : SlotDefinition → Bool
is_constant Variable = false
is_constant (Constant v) = true

-- a plan's scans, slots and selects: those below its counts
abbrev pub scans_of : Plan → List Scan
scans_of p = take p.scan_count p.scans

abbrev pub slots_of : Plan → List SlotRecord
slots_of p = take p.slot_count p.slots

abbrev pub slots_selected : Plan → List Slot
slots_selected p = take p.select_count p.select

-- two plans are equal if their counts and what lies below these agree
pub record SamePlan (p q : Plan) : Type 0 where
  pub scan_counts : p.scan_count ≡ q.scan_count
  pub slot_counts : p.slot_count ≡ q.slot_count
  pub select_counts : p.select_count ≡ q.select_count
  pub scans : scans_of p ≡ scans_of q
  pub slots : slots_of p ≡ slots_of q
  pub selects : slots_selected p ≡ slots_selected q

-- a plan's arrays are as long as their capacities, as those of the code always are
pub record Filled (p : Plan) : Type 0 where
  pub many_scans : length p.scans ≡ max_scans
  pub many_slots : length p.slots ≡ max_slots
  pub many_selects : length p.select ≡ max_selects

-- past its counts a plan made here holds variable slots, out-out aevt scans and selects, all numbers 0
abbrev pub zero_slot : Slot
zero_slot = record { 0 = 0 }

abbrev pub zero_scan : Scan
zero_scan = record { index = Aevt; flow = OutOut; entity = zero_slot; attribute = record { 0 = 0 }; value = zero_slot }

abbrev pub variable_slot : SlotRecord
variable_slot = record { definition = Variable }

-- slot k of some slots is a constant
abbrev pub constant_at : List SlotRecord → ℕ → Bool
constant_at slots k = is_constant (get_or slots k variable_slot).definition

-- two indexes are the same
abbrev pub same_index : Index → Index → Bool
same_index x y = eqb (index_code x) (index_code y)

-- the empty plan, all zeros
abbrev pub empty_plan : Plan
empty_plan = record {
  scans = replicate max_scans zero_scan;
  scan_count = 0;
  slots = replicate max_slots variable_slot;
  slot_count = 0;
  select = replicate max_selects zero_slot;
  select_count = 0;
}

-- 20: a plan counts more slots, scans or selects than there is room for
unfoldable pub counts_fault : ℕ → ℕ → ℕ → Verdict
counts_fault scans slots selects = refuse_if (ltb max_slots slots || ltb max_scans scans || ltb max_selects selects) 20 0

-- what 20 leaves: the counts are within the capacities
pub record Counted (scans slots selects : ℕ) : Type 0 where
  pub few_scans : scans ≤ max_scans
  pub few_slots : slots ≤ max_slots
  pub few_selects : selects ≤ max_selects

-- 21 at the lowest scan from number i on that is out-out over eavt
unfoldable pub out_out_fault : List Scan → ℕ → Verdict
out_out_fault ss i = refuse_first (λ (s : Scan). out_out_eavt s.flow s.index) 21 i ss

-- cost and `next` of an array of scans of which the first k count: 20 where k is over the capacity, then 21 at the lowest such scan
unfoldable pub scan_flows_fault : List Scan → ℕ → Verdict
scan_flows_fault scans k = or_else (refuse_if (ltb max_scans k) 20 0) (out_out_fault (take k scans) 0)

-- cost and `next` of a plan: only 20, then 21 at the lowest such scan. `flows-agree`: its counts' fault, else that of its scans
unfoldable pub flows_fault : Plan → Verdict
flows_fault p = or_else (counts_fault p.scan_count p.slot_count p.select_count) (out_out_fault (scans_of p) 0)
