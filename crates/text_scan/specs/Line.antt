-- 01, "Plan text": how a slot and a scan print.
use Rattle.std.specs.Prelude.{ℕ, Bool, true, false, List, [], ◌++◌, length, take}
use Rattle.plan.specs.declared.Scan.{Scan}
use Rattle.plan.specs.declared.SlotRecord.{SlotRecord}
use Rattle.plan.specs.declared.Index.{Index}
use Rattle.plan.specs.declared.Index.TheVariants.{Aevt, Avet, Eavt}
use Rattle.plan.specs.declared.Flow.{Flow}
use Rattle.plan.specs.declared.Flow.TheVariants.{OutOut, InOut, InIn}
use Rattle.plan.specs.Plan.{first_slot, second_slot, constant_at}
use Rattle.text_pieces.specs.Ascii.{ascii}
use Rattle.text_pieces.specs.Decimal.{decimal}
use Rattle.text_pieces.specs.Escaped.{escaped}
use Rattle.text_names.specs.Names.{name_of}

-- a variable's name is printed; a constant's isn't read
abbrev pub shown_name : Bool → List ℕ → List ℕ
shown_name true name = []
shown_name false name = escaped name

-- how a slot prints, with the names lent: its name and its number
unfoldable pub slot_text : List SlotRecord → List ℕ → List ℕ → ℕ → List ℕ
slot_text slots names ends k = shown_name (constant_at slots k) (name_of names ends k) ++ ascii ":" ++ decimal k

-- the same where the slots stand in an array that may hold more: there is an end for each slot
abbrev pub slot_text_in : List SlotRecord → List ℕ → List ℕ → ℕ → List ℕ
slot_text_in array names ends k = slot_text (take (length ends) array) names ends k

abbrev pub index_text : Index → List ℕ
index_text Aevt = ascii " in aevt"
index_text Avet = ascii " in avet"
index_text Eavt = ascii " in eavt"

-- every index is followed by the attribute
abbrev pub scanned_text : Index → ℕ → List ℕ
scanned_text x a = index_text x ++ ascii " attribute " ++ decimal a

-- labels follow index order
abbrev pub first_label : Index → List ℕ
first_label Aevt = ascii "entity="
first_label Avet = ascii "value="
first_label Eavt = ascii "entity="

abbrev pub second_label : Index → List ℕ
second_label Aevt = ascii "value="
second_label Avet = ascii "entity="
second_label Eavt = ascii "value="

-- a scan over an index, from how its two slots print, in index order
unfoldable pub flow_line : Flow → Index → ℕ → List ℕ → List ℕ → List ℕ
flow_line OutOut x a first second = ascii "for " ++ first ++ ascii ", " ++ second ++ scanned_text x a ++ ascii "\n"
flow_line InOut x a first second = ascii "for " ++ second ++ scanned_text x a ++ ascii " (" ++ first_label x ++ first ++ ascii ")\n"
flow_line InIn x a first second = ascii "for _" ++ scanned_text x a ++ ascii " (" ++ first_label x ++ first ++ ascii ", " ++ second_label x ++ second ++ ascii ")\n"

unfoldable pub scan_line : List SlotRecord → List ℕ → List ℕ → Scan → List ℕ
scan_line slots names ends s = flow_line s.flow s.index s.attribute.0 (slot_text slots names ends (first_slot s).0) (slot_text slots names ends (second_slot s).0)
