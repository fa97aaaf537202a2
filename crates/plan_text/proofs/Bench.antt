-- 01's examples, as the definition computes them.
use mathlib.Core.Path.{◌≡◌, refl}
use Prim.Native.Nat.{ℕ}
use mathlib.Core.List.{List, [], ◌∷◌}
use native.Mathlib.Omega.{arith}
use Rattle.lists.specs.Laid.{laid}
use Rattle.lists.specs.Span.{span}
use Rattle.std.specs.Prelude.{Ok}
use Rattle.refusal.specs.Verdict.{first_fault, refuse_first}
use Rattle.plan_check.specs.Check.{is_written, is_set, slot_fault, scan_fault, scans_fault, unset_fault, initialization_fault, select_fault, selects_fault, check_of}
use Rattle.plan.specs.declared.SlotDefinition.TheVariants.{Constant}
use Rattle.plan.specs.declared.Plan.{Plan}
use Rattle.plan.specs.declared.Index.TheVariants.{Aevt, Avet}
use Rattle.plan.specs.declared.Flow.TheVariants.{OutOut, InOut, InIn}
use Rattle.plan.specs.Plan.{variable_slot, counts_fault, SamePlan}
use Rattle.text_pieces.specs.Ascii.{ascii}
use Rattle.text_pieces.specs.Decimal.{digits_within, decimal}
use Rattle.text_names.specs.Names.{name_of}
use Rattle.text_pieces.specs.Escaped.{escaped_byte, escaped}
use Rattle.text_scan.specs.Line.{slot_text, flow_line, scan_line}
use Rattle.plan_text.specs.Text.{constant_line, constant_lines, scan_lines, joined, selects_text, text_of}

-- E's plan
abbrev example : Plan
example = record {
  scans =
      record { index = Aevt; flow = OutOut; entity = record { 0 = 0 }; attribute = record { 0 = 5 }; value = record { 0 = 1 } }
      ∷ record { index = Aevt; flow = InIn; entity = record { 0 = 1 }; attribute = record { 0 = 9 }; value = record { 0 = 2 } }
      ∷ [];
  scan_count = 2;
  slots = variable_slot ∷ variable_slot ∷ record { definition = Constant 7 } ∷ [];
  slot_count = 3;
  select = record { 0 = 1 } ∷ [];
  select_count = 1;
}

pub text-of-example : text_of example (ascii "machinevalve") (7 ∷ 12 ∷ 12 ∷ [])
    ≡ ascii "let :2 = 7\nfor machine:0, valve:1 in aevt attribute 5\nfor _ in aevt attribute 9 (entity=valve:1, value=:2)\nyield valve:1"
unfolding laid escaped_byte digits_within decimal name_of slot_text flow_line scan_line constant_line constant_lines scan_lines joined selects_text text_of
text-of-example = refl

-- 01's in-out scan; the labels of avet
pub in-out-line : scan_line (variable_slot ∷ variable_slot ∷ []) (ascii "machinevalve") (7 ∷ 12 ∷ [])
    (record { index = Aevt; flow = InOut; entity = record { 0 = 0 }; attribute = record { 0 = 5 }; value = record { 0 = 1 } })
    ≡ ascii "for valve:1 in aevt attribute 5 (entity=machine:0)\n"
unfolding laid escaped_byte digits_within decimal name_of slot_text flow_line scan_line
in-out-line = refl

pub avet-line : scan_line (variable_slot ∷ variable_slot ∷ []) (ascii "machinevalve") (7 ∷ 12 ∷ [])
    (record { index = Avet; flow = InIn; entity = record { 0 = 0 }; attribute = record { 0 = 5 }; value = record { 0 = 1 } })
    ≡ ascii "for _ in avet attribute 5 (value=valve:1, entity=machine:0)\n"
unfolding laid escaped_byte digits_within decimal name_of slot_text flow_line scan_line
avet-line = refl

-- a name that would read as a second slot, and one of a newline
pub escaped-names : escaped (ascii "1:0, (2)\n") ≡ ascii "1\\3a0\\2c\\20\\282\\29\\0a"
unfolding laid escaped_byte
escaped-names = refl

-- without arrays as long as their capacities a count says nothing: this plan passes and prints the same for a count of one scan and of two
abbrev short : ℕ → Plan
short n = record {
  scans = record { index = Aevt; flow = OutOut; entity = record { 0 = 0 }; attribute = record { 0 = 5 }; value = record { 0 = 1 } } ∷ [];
  scan_count = n;
  slots = variable_slot ∷ variable_slot ∷ [];
  slot_count = 2;
  select = record { 0 = 1 } ∷ [];
  select_count = 1;
}

short-passes : (check_of (short 1) ≡ Ok tt) × (check_of (short 2) ≡ Ok tt)
unfolding check_of counts_fault initialization_fault scans_fault scan_fault slot_fault is_set is_written unset_fault refuse_first first_fault span selects_fault select_fault
short-passes = (refl, refl)

short-alike : (names ends : List ℕ) → text_of (short 1) names ends ≡ text_of (short 2) names ends
unfolding text_of
short-alike names ends = refl

short-differs : SamePlan (short 1) (short 2) → ⊥
short-differs s = let z = s.scan_counts in omega arith
