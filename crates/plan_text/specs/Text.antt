-- 01, "Plan text": what a plan prints, line by line as 001's `Debug` does.
use Rattle.std.specs.Prelude.{ℕ, zero, suc, ◌+◌, List, [], ◌∷◌, ◌++◌, map}
use Rattle.plan.specs.declared.Slot.{Slot}
use Rattle.plan.specs.declared.Scan.{Scan}
use Rattle.plan.specs.declared.SlotRecord.{SlotRecord}
use Rattle.plan.specs.declared.SlotDefinition.{SlotDefinition}
use Rattle.plan.specs.declared.SlotDefinition.TheVariants.{Variable, Constant}
use Rattle.plan.specs.declared.Plan.{Plan}
use Rattle.plan.specs.Plan.{scans_of, slots_of, slots_selected}
use Rattle.text_pieces.specs.Ascii.{ascii}
use Rattle.text_pieces.specs.Decimal.{decimal}
use Rattle.text_scan.specs.Line.{slot_text, scan_line}

-- a constant in slot k, in decimal; variables have no such line
unfoldable pub constant_line : ℕ → SlotDefinition → List ℕ
constant_line k Variable = []
constant_line k (Constant v) = ascii "let :" ++ decimal k ++ ascii " = " ++ decimal v ++ ascii "\n"

-- all constants, from slot k on
unfoldable pub constant_lines : List SlotRecord → ℕ → List ℕ
constant_lines [] k = []
constant_lines (s ∷ ss) k = constant_line k s.definition ++ constant_lines ss (k + 1)

-- the scans, in order
unfoldable pub scan_lines : List SlotRecord → List ℕ → List ℕ → List Scan → List ℕ
scan_lines slots names ends [] = []
scan_lines slots names ends (s ∷ ss) = scan_line slots names ends s ++ scan_lines slots names ends ss

-- texts joined by ", "
unfoldable pub joined : List (List ℕ) → List ℕ
joined [] = []
joined (t ∷ []) = t
joined (t ∷ u ∷ ts) = t ++ ascii ", " ++ joined (u ∷ ts)

-- what then stands before text i
abbrev pub separator : ℕ → List ℕ
separator zero = []
separator (suc i) = ascii ", "

-- the selects
unfoldable pub selects_text : List SlotRecord → List ℕ → List ℕ → List Slot → List ℕ
selects_text slots names ends ks = joined (map (λ (k : Slot). slot_text slots names ends k.0) ks)

-- the whole text
unfoldable pub text_of : Plan → List ℕ → List ℕ → List ℕ
text_of p names ends =
    constant_lines (slots_of p) 0 ++ scan_lines (slots_of p) names ends (scans_of p) ++ ascii "yield " ++ selects_text (slots_of p) names ends (slots_selected p)
