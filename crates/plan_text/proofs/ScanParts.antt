-- The scans and the selects: what their texts tell, whatever follows.
use mathlib.Core.Path.{◌≡◌, refl, sym, ap, ◌∙◌}
use Prim.Native.Nat.{ℕ}
use mathlib.Core.List.{List, [], ◌∷◌, ◌++◌, map, append_assoc, append-nil}
use mathlib.Core.Bool.{Bool, false}
use native.Mathlib.Omega.{arith}
use lib.ListN.{drop}
use Rattle.plan.specs.declared.Slot.{Slot}
use Rattle.plan.specs.declared.Scan.{Scan}
use Rattle.plan.specs.declared.SlotRecord.{SlotRecord}
use Rattle.lists.specs.Every.{EveryPasses}
use Rattle.plan.specs.declared.Index.{Index}
use Rattle.plan.specs.declared.Index.TheVariants.{Aevt, Avet, Eavt}
use Rattle.plan.specs.declared.Flow.{Flow}
use Rattle.plan.specs.declared.Flow.TheVariants.{OutOut, InOut, InIn}
use Rattle.plan.specs.Plan.{in_order, first_slot, second_slot, constant_at}
use Rattle.text_pieces.specs.Ascii.{ascii}
use Rattle.text_pieces.specs.Decimal.{decimal}
use Rattle.text_pieces.proofs.Escaped.{is_shown}
use Rattle.text_names.specs.Names.{name_of}
use Rattle.text_scan.specs.Line.{shown_name, slot_text, flow_line, scan_line}
use Rattle.text_scan.proofs.Shown.{shown-plain}
use Rattle.plan_text.specs.Text.{scan_lines, joined, selects_text}
use Rattle.plan_text.proofs.Parts.{Stops, hd, tl, no-cons, is_digit}
use Rattle.plan_text.proofs.LineParts.{slot_on, line_on, SameLine, slot-parts, line-parts}

-- a scan is told by its fields
abbrev scan_with : Index → Flow → ℕ → ℕ → ℕ → Scan
scan_with x f e a v = record { index = x; flow = f; entity = record { 0 = e }; attribute = record { 0 = a }; value = record { 0 = v } }

abbrev slot_with : ℕ → Slot
slot_with k = record { 0 = k }

by_order : (x : Index) (e v e' v' : Slot) → (in_order x e v).0 ≡ (in_order x e' v').0 → (in_order x v e).0 ≡ (in_order x v' e').0 → (e.0 ≡ e'.0) × (v.0 ≡ v'.0)
by_order Aevt e v e' v' p q = (p, q)
by_order Avet e v e' v' p q = (q, p)
by_order Eavt e v e' v' p q = (p, q)

scan-told : (s t : Scan) (l m : List ℕ)
    → SameLine s.flow t.flow s.index t.index s.attribute.0 t.attribute.0 (first_slot s).0 (first_slot t).0 (second_slot s).0 (second_slot t).0 l m → s ≡ t
scan-told s t l m w =
    let z : t.index ≡ s.index = sym w.scanned.index_is in
    let o = by_order s.index s.entity s.value t.entity t.value
    (w.first_is ∙ ap (λ (u : Index). (in_order u t.entity t.value).0) z) (w.second_is ∙ ap (λ (u : Index). (in_order u t.value t.entity).0) z) in
    let e : scan_with s.index s.flow s.entity.0 s.attribute.0 s.value.0 ≡ scan_with t.index t.flow t.entity.0 t.attribute.0 t.value.0 =
    rw (w.scanned.index_is, w.flow_is, w.scanned.attribute_is, o.0, o.1) in
    e

-- the scans, the selects, and what follows
abbrev lines_on : (ℕ → List ℕ) → List Scan → List ℕ → List ℕ
lines_on N [] r = r
lines_on N (s ∷ ss) r = line_on N s.flow s.index s.attribute.0 (first_slot s).0 (second_slot s).0 (lines_on N ss r)

abbrev more_on : (ℕ → List ℕ) → List Slot → List ℕ
more_on N [] = []
more_on N (k ∷ ks) = 44 ∷ 32 ∷ slot_on N k.0 (more_on N ks)

abbrev selects_on : (ℕ → List ℕ) → List Slot → List ℕ
selects_on N [] = []
selects_on N (k ∷ ks) = slot_on N k.0 (more_on N ks)

line_first : (N : ℕ → List ℕ) (f : Flow) (x : Index) (a i j : ℕ) (r : List ℕ) → hd (line_on N f x a i j r) ≡ 102
line_first N OutOut x a i j r = refl
line_first N InOut x a i j r = refl
line_first N InIn x a i j r = refl

more-stops : (N : ℕ → List ℕ) (ks : List Slot) → Stops is_digit (more_on N ks)
more-stops N [] = tt
more-stops N (k ∷ ks) = refl

not-empty : {A : Type 0} (d : List ℕ) (x : ℕ) (l : List ℕ) → d ++ (x ∷ l) ≡ [] → A
not-empty [] x l q = no-cons x l q
not-empty (y ∷ d) x l q = no-cons y (d ++ (x ∷ l)) q

module _ (N M : ℕ → List ℕ) (shown : (k : ℕ) → EveryPasses is_shown (N k)) (shown' : (k : ℕ) → EveryPasses is_shown (M k)) where
  lines-parts : (ss ts : List Scan) (r s : List ℕ) → lines_on N ss (121 ∷ r) ≡ lines_on M ts (121 ∷ s) → (ss ≡ ts) × (r ≡ s)
  lines-parts [] [] r s q = (refl, ap tl q)
  lines-parts [] (t ∷ ts) r s q =
      let z : ◌≡◌ {A = ℕ} 121 102 = ap hd q ∙ line_first M t.flow t.index t.attribute.0 (first_slot t).0 (second_slot t).0 _ in
      absurd (omega arith)
  lines-parts (t ∷ ts) [] r s q =
      let z : ◌≡◌ {A = ℕ} 121 102 = ap hd (sym q) ∙ line_first N t.flow t.index t.attribute.0 (first_slot t).0 (second_slot t).0 _ in
      absurd (omega arith)
  lines-parts (u ∷ us) (t ∷ ts) r s q =
      let w = line-parts N M shown shown' u.flow t.flow u.index t.index u.attribute.0 t.attribute.0 (first_slot u).0 (first_slot t).0 (second_slot u).0 (second_slot t).0 _ _ q in
      let o = lines-parts us ts r s w.scanned.rest_is in
      let e : u ≡ t = scan-told u t _ _ w in
      (rw (e, o.0), o.1)

  more_parts : (ks js : List Slot) → more_on N ks ≡ more_on M js → ks ≡ js
  more_parts [] [] q = refl
  more_parts [] (j ∷ js) q = no-cons 44 _ (sym q)
  more_parts (k ∷ ks) [] q = no-cons 44 _ q
  more_parts (k ∷ ks) (j ∷ js) q =
      let o = slot-parts N M shown shown' k.0 j.0 (more_on N ks) (more_on M js) (more-stops N ks) (more-stops M js) (ap (drop 2) q) in
      let e : k ≡ j = ap slot_with o.0 in
      rw (e, more_parts ks js o.1)

  selects-parts : (ks js : List Slot) → selects_on N ks ≡ selects_on M js → ks ≡ js
  selects-parts [] [] q = refl
  selects-parts [] (j ∷ js) q = not-empty (M j.0) 58 _ (sym q)
  selects-parts (k ∷ ks) [] q = not-empty (N k.0) 58 _ q
  selects-parts (k ∷ ks) (j ∷ js) q =
      let o = slot-parts N M shown shown' k.0 j.0 (more_on N ks) (more_on M js) (more-stops N ks) (more-stops M js) q in
      let e : k ≡ j = ap slot_with o.0 in
      rw (e, more_parts ks js o.1)

-- as the text has them
module _ (slots : List SlotRecord) (names ends : List ℕ) where
  abbrev pub name_shown : ℕ → List ℕ
  name_shown k = shown_name (constant_at slots k) (name_of names ends k)

  pub all_shown : (k : ℕ) → EveryPasses is_shown (name_shown k)
  all_shown k = shown-plain (constant_at slots k) (name_of names ends k)

flow-on : (N : ℕ → List ℕ) (f : Flow) (x : Index) (a i j : ℕ) (r : List ℕ) → flow_line f x a (N i ++ ascii ":" ++ decimal i) (N j ++ ascii ":" ++ decimal j) ++ r ≡ line_on N f x a i j r
unfolding flow_line
flow-on N OutOut x a i j r = simp append_assoc
flow-on N InOut x a i j r = simp append_assoc
flow-on N InIn x a i j r = simp append_assoc

module _ (slots : List SlotRecord) (names ends : List ℕ) where
  scans-on : (ss : List Scan) (r : List ℕ) → scan_lines slots names ends ss ++ r ≡ lines_on (name_shown slots names ends) ss r
  unfolding scan_lines scan_line slot_text
  scans-on [] r = refl
  scans-on (s ∷ ss) r =
      append_assoc (scan_line slots names ends s) (scan_lines slots names ends ss) r ∙ ap (λ (l : List ℕ). scan_line slots names ends s ++ l) (scans-on ss r)
      ∙ flow-on (name_shown slots names ends) s.flow s.index s.attribute.0 (first_slot s).0 (second_slot s).0 _

  more-on : (k : Slot) (ks : List Slot) → joined (map (λ (j : Slot). slot_text slots names ends j.0) (k ∷ ks)) ≡ slot_on (name_shown slots names ends) k.0 (more_on (name_shown slots names ends) ks)
  unfolding joined slot_text
  more-on k [] = simp (append_assoc, append-nil)
  more-on k (j ∷ ks) = ap (λ (l : List ℕ). slot_text slots names ends k.0 ++ ascii ", " ++ l) (more-on j ks) ∙ simp append_assoc

  selects-on : (ks : List Slot) → selects_text slots names ends ks ≡ selects_on (name_shown slots names ends) ks
  unfolding selects_text joined
  selects-on [] = refl
  selects-on (k ∷ ks) = more-on k ks

module _ (slots slots' : List SlotRecord) (names ends : List ℕ) where
  -- what stands behind the constants, and `yield`
  pub behind-constants : (ss ts : List Scan) (ks js : List Slot)
      → scan_lines slots names ends ss ++ (ascii "yield " ++ selects_text slots names ends ks) ≡ scan_lines slots' names ends ts ++ (ascii "yield " ++ selects_text slots' names ends js)
      → (ss ≡ ts) × (ks ≡ js)
  behind-constants ss ts ks js q =
      let N = name_shown slots names ends in
      let M = name_shown slots' names ends in
      let o = lines-parts N M (all_shown slots names ends) (all_shown slots' names ends) ss ts (ascii "ield " ++ selects_text slots names ends ks) (ascii "ield " ++ selects_text slots' names ends js)
      (sym (scans-on slots names ends ss _) ∙ q ∙ scans-on slots' names ends ts _) in
      (o.0, selects-parts N M (all_shown slots names ends) (all_shown slots' names ends) ks js (sym (selects-on slots names ends ks) ∙ ap (drop 5) o.1 ∙ selects-on slots' names ends js))

-- it begins with an f or a y
pub behind-first : (P : ℕ → Bool) (slots : List SlotRecord) (names ends : List ℕ) (ss : List Scan) (r : List ℕ) → P 102 ≡ false → P 121 ≡ false → Stops P (scan_lines slots names ends ss ++ (121 ∷ r))
behind-first P slots names ends ss r f y = rw (scans-on slots names ends ss (121 ∷ r)) (go ss)
  where
    first : (N : ℕ → List ℕ) (f : Flow) (x : Index) (a i j : ℕ) (l : List ℕ) → P 102 ≡ false → Stops P (line_on N f x a i j l)
    first N OutOut x a i j l e = e
    first N InOut x a i j l e = e
    first N InIn x a i j l e = e

    go : (ss : List Scan) → Stops P (lines_on (name_shown slots names ends) ss (121 ∷ r))
    go [] = y
    go (s ∷ ss) = first _ s.flow s.index s.attribute.0 (first_slot s).0 (second_slot s).0 _ f
