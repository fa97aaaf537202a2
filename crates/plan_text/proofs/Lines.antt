-- The parts of a text, one element more at a time.
use mathlib.Core.Path.{◌≡◌, refl, sym, ap, ◌∙◌}
use mathlib.Core.List.{List, [], ◌∷◌, ◌++◌, map, map-append, append_assoc, append-nil}
use Prim.Native.Nat.{ℕ, zero, suc, ◌+◌, ◌<◌}
use native.Mathlib.Nat.{add-zero}
use native.Mathlib.Omega.{arith}
use native.Mathlib.Numerals.{add-one}
use lib.ListN.{length, take, get_or, length-map}
use lib.Seq.{take-suc, length-take-le}
use Rattle.plan.specs.declared.Slot.{Slot}
use Rattle.plan.specs.declared.Scan.{Scan}
use Rattle.plan.specs.declared.SlotRecord.{SlotRecord}
use Rattle.plan.specs.Plan.{variable_slot, zero_scan, zero_slot}
use Rattle.text_pieces.specs.Ascii.{ascii}
use Rattle.text_scan.specs.Line.{slot_text, scan_line}
use Rattle.plan_text.specs.Text.{constant_line, constant_lines, scan_lines, joined, separator, selects_text}

-- constants, with one slot more behind them
constants-more : (ss : List SlotRecord) (s : SlotRecord) (k : ℕ) → constant_lines (ss ++ (s ∷ [])) k ≡ constant_lines ss k ++ constant_line (k + length ss) s.definition
unfolding constant_lines
constants-more [] s k = rw (append-nil, add-zero)
constants-more (t ∷ ss) s k =
    let e : k + 1 + length ss ≡ k + suc (length ss) = omega arith in
    rw (constants-more ss s (k + 1), e) (sym (append_assoc (constant_line k t.definition) (constant_lines ss (k + 1)) (constant_line (k + suc (length ss)) s.definition)))

pub constants-next : (ss : List SlotRecord) (i : ℕ) → i < length ss
    → constant_lines (take (i + 1) ss) 0 ≡ constant_lines (take i ss) 0 ++ constant_line i (get_or ss i variable_slot).definition
constants-next ss i h =
    let long : length (take i ss) ≡ i = length-take-le i ss (omega arith) in
    let none : 0 + length (take i ss) ≡ i = omega arith in
    rw (add-one, take-suc ss i variable_slot h) (constants-more (take i ss) (get_or ss i variable_slot) 0 ∙ ap (λ (n : ℕ). constant_lines (take i ss) 0 ++ constant_line n (get_or ss i variable_slot).definition) none)

-- nothing stands before the first text
pub separator-first : (i : ℕ) → (i ≡ 0) → separator i ≡ []
separator-first i e = rw e refl

-- what stands before a text that is not the first
pub separator-past : (i : ℕ) → ((i ≡ 0) → ⊥) → separator i ≡ ascii ", "
separator-past zero f = absurd (f refl)
separator-past (suc i) f = refl

-- texts joined, with one more behind them
joined-more : (ts : List (List ℕ)) (t : List ℕ) → joined (ts ++ (t ∷ [])) ≡ joined ts ++ separator (length ts) ++ t
unfolding joined
joined-more [] t = refl
joined-more (u ∷ []) t = refl
joined-more (u ∷ v ∷ ts) t =
    ap (λ (l : List ℕ). u ++ ascii ", " ++ l) (joined-more (v ∷ ts) t) ∙
    sym (append_assoc (u ++ ascii ", ") (joined (v ∷ ts) ++ ascii ", ") t) ∙
    ap (λ (l : List ℕ). l ++ t) (sym (append_assoc (u ++ ascii ", ") (joined (v ∷ ts)) (ascii ", ")))

module _ (slots : List SlotRecord) (names ends : List ℕ) where
  -- scans, with one more behind them
  scans-more : (ss : List Scan) (s : Scan) → scan_lines slots names ends (ss ++ (s ∷ [])) ≡ scan_lines slots names ends ss ++ scan_line slots names ends s
  unfolding scan_lines
  scans-more [] s = rw append-nil
  scans-more (t ∷ ss) s = rw (scans-more ss s) (sym (append_assoc (scan_line slots names ends t) (scan_lines slots names ends ss) (scan_line slots names ends s)))

  pub scans-next : (ss : List Scan) (i : ℕ) → i < length ss
      → scan_lines slots names ends (take (i + 1) ss) ≡ scan_lines slots names ends (take i ss) ++ scan_line slots names ends (get_or ss i zero_scan)
  scans-next ss i h = rw (add-one, take-suc ss i zero_scan h) (scans-more (take i ss) (get_or ss i zero_scan))

  pub selects-next : (ks : List Slot) (i : ℕ) → i < length ks
      → selects_text slots names ends (take (i + 1) ks) ≡ selects_text slots names ends (take i ks) ++ separator i ++ slot_text slots names ends (get_or ks i zero_slot).0
  unfolding selects_text
  selects-next ks i h =
      let text : Slot → List ℕ = λ k. slot_text slots names ends k.0 in
      let long : length (map text (take i ks)) ≡ i = length-map (take i ks) text ∙ length-take-le i ks (omega arith) in
      rw (add-one, take-suc ks i zero_slot h, map-append) (joined-more (map text (take i ks)) (text (get_or ks i zero_slot)) ∙ ap (λ (n : ℕ). joined (map text (take i ks)) ++ separator n ++ text (get_or ks i zero_slot)) long)
