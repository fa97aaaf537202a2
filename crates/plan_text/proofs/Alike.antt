-- The text depends on nothing past a plan's counts, and on no constant's name.
use mathlib.Core.Path.{◌≡◌, refl, sym, ap, ◌∙◌}
use mathlib.Core.Logic.{⊎_elim}
use mathlib.Core.Bool.{Bool, true, false}
use mathlib.Core.List.{List, [], ◌∷◌, ◌++◌}
use Prim.Native.Nat.{ℕ, suc, ◌-◌, ◌≤◌, ◌<◌, min}
use native.Mathlib.Nat.{min-le_left, eq-or-lt_of_le}
use native.Mathlib.Omega.{arith}
use lib.ListN.{length, take, drop, get_or, get_or-eq_default}
use Rattle.plan.specs.declared.Slot.{Slot}
use Rattle.plan.specs.declared.Scan.{Scan}
use Rattle.plan.specs.declared.SlotRecord.{SlotRecord}
use Rattle.plan.specs.declared.Plan.{Plan}
use Rattle.plan.specs.Plan.{first_slot, second_slot, constant_at, scans_of, slots_of, slots_selected, SamePlan}
use Rattle.text_pieces.specs.Ascii.{ascii}
use Rattle.text_pieces.specs.Decimal.{decimal}
use Rattle.text_pieces.specs.Escaped.{escaped}
use Rattle.text_names.specs.Names.{name_start, name_of}
use Rattle.text_scan.specs.Line.{shown_name, slot_text, scan_line}
use Rattle.plan_text.specs.Text.{scan_lines, joined, selects_text, text_of}

-- past the ends there is no name
name-past : (names ends : List ℕ) (k : ℕ) → length ends ≤ k → name_of names ends k ≡ []
unfolding name_of
name-past names ends k h =
    let e : get_or ends k 0 ≡ 0 = get_or-eq_default ends 0 h in
    let z : get_or ends k 0 - name_start ends k ≡ 0 = omega arith in
    ap (λ (n : ℕ). take n (drop (name_start ends k) names)) z

shown-alike : (b : Bool) (n n' : List ℕ) → (b ≡ false → n ≡ n') → shown_name b n ≡ shown_name b n'
shown-alike true n n' e = refl
shown-alike false n n' e = ap escaped (e refl)

-- names with an end for each slot, where the variables among the slots have the same names
pub record SameNames (slots : List SlotRecord) (names ends names' ends' : List ℕ) : Type 0 where
  pub one_each : length ends ≡ length slots
  pub one_each' : length ends' ≡ length slots
  pub same : (k : ℕ) → k < length slots → constant_at slots k ≡ false → name_of names ends k ≡ name_of names' ends' k

module _ (slots : List SlotRecord) (names ends names' ends' : List ℕ) where
  module _ (v : SameNames slots names ends names' ends') where
    names-alike : (k : ℕ) → constant_at slots k ≡ false → name_of names ends k ≡ name_of names' ends' k
    names-alike k e =
        let n = length slots in
        let one = v.one_each in
        let one' = v.one_each' in
        ⊎_elim (λ (h : min (suc k) n ≡ suc k). v.same k (omega arith) e) (λ (h : min (suc k) n < suc k). name-past names ends k (omega arith) ∙ sym (name-past names' ends' k (omega arith)))
        (eq-or-lt_of_le (min-le_left (suc k) n))

    slot-alike : (k : ℕ) → slot_text slots names ends k ≡ slot_text slots names' ends' k
    unfolding slot_text
    slot-alike k = ap (λ (t : List ℕ). t ++ ascii ":" ++ decimal k) (shown-alike (constant_at slots k) (name_of names ends k) (name_of names' ends' k) (names-alike k))

    scans-alike : (ss : List Scan) → scan_lines slots names ends ss ≡ scan_lines slots names' ends' ss
    unfolding scan_lines scan_line
    scans-alike [] = refl
    scans-alike (s ∷ ss) = rw (slot-alike (first_slot s).0, slot-alike (second_slot s).0, scans-alike ss)

    selects-alike : (ks : List Slot) → selects_text slots names ends ks ≡ selects_text slots names' ends' ks
    unfolding selects_text joined
    selects-alike [] = refl
    selects-alike (k ∷ []) = slot-alike k.0
    selects-alike (k ∷ j ∷ ks) = rw (slot-alike k.0) (ap (λ (t : List ℕ). slot_text slots names' ends' k.0 ++ ascii ", " ++ t) (selects-alike (j ∷ ks)))

pub text-alike : (p q : Plan) (names ends names' ends' : List ℕ) → SamePlan p q → SameNames (slots_of p) names ends names' ends' → text_of p names ends ≡ text_of q names' ends'
unfolding text_of
text-alike p q names ends names' ends' e same =
    rw (scans-alike (slots_of p) names ends names' ends' same (scans_of p), selects-alike (slots_of p) names ends names' ends' same (slots_selected p), e.slots, e.scans, e.selects)
