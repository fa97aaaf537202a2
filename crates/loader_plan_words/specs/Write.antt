-- How a plan is written as words: the other way round of Words.antt. And how a step of its scans is written: by their index words alone.
use Rattle.std.specs.Prelude.{ℕ, ◌+◌, ◌*◌, List, [], ◌∷◌, ◌++◌, length, take, drop, set}
use Rattle.lists.specs.Laid.{laid}
use Rattle.plan.specs.declared.Slot.{Slot}
use Rattle.plan.specs.declared.Scan.{Scan}
use Rattle.plan.specs.declared.SlotRecord.{SlotRecord}
use Rattle.plan.specs.declared.SlotDefinition.{SlotDefinition}
use Rattle.plan.specs.declared.SlotDefinition.TheVariants.{Variable, Constant}
use Rattle.plan.specs.declared.Plan.{Plan}
use Rattle.plan.specs.Codes.{index_code, flow_code}
use Rattle.loader_words.specs.Words.{scans_at, scan_words}

-- the words of a scan, a slot, a select
abbrev pub words_of_scan : Scan → List ℕ
words_of_scan s = index_code s.index ∷ flow_code s.flow ∷ s.entity.0 ∷ s.attribute.0 ∷ s.value.0 ∷ []

abbrev pub constant_word : SlotDefinition → ℕ
constant_word Variable = 0
constant_word (Constant v) = 1

abbrev pub value_word : SlotDefinition → ℕ
value_word Variable = 0
value_word (Constant v) = v

abbrev pub words_of_slot : SlotRecord → List ℕ
words_of_slot s = constant_word s.definition ∷ value_word s.definition ∷ []

abbrev pub words_of_select : Slot → List ℕ
words_of_select k = k.0 ∷ []

abbrev pub count_words : Plan → List ℕ
count_words p = p.scan_count ∷ p.slot_count ∷ p.select_count ∷ []

-- the words of a plan
abbrev pub words_of_plan : Plan → List ℕ
words_of_plan p = count_words p ++ laid words_of_scan p.scans ++ laid words_of_slot p.slots ++ laid words_of_select p.select

-- words put over those from a place on
abbrev pub put_at : ℕ → List ℕ → List ℕ → List ℕ
put_at at new ws = take at ws ++ new ++ drop (at + length new) ws

-- where the index word of scan i stands
abbrev pub index_at : ℕ → ℕ
index_at i = scans_at + scan_words * i

-- words with the indexes of these scans put over those of the scans from number i on; every other word as it was
unfoldable pub with_indexes : List Scan → ℕ → List ℕ → List ℕ
with_indexes [] i ws = ws
with_indexes (s ∷ ss) i ws = with_indexes ss (i + 1) (set ws (index_at i) (index_code s.index))
