-- Two plans that pass the check and have equal text, over the same names, are equal.
use mathlib.Core.Path.{◌≡◌, refl, sym, ap, ◌∙◌}
use mathlib.Core.Logic.{⊎_elim}
use Prim.Native.Nat.{ℕ, suc, ◌≤◌, ◌<◌, min}
use mathlib.Core.List.{List, [], ◌∷◌, ◌++◌, append_assoc}
use mathlib.Core.Bool.{true, false, ◌||◌, false≢true}
use native.Mathlib.Omega.{arith}
use native.Mathlib.Nat.{min-le_left, eq-or-lt_of_le}
use borrow.Author.Tests.{eqb-true}
use lib.ListN.{length, get_or, get_or-eq_default}
use lib.Seq.{ext_get_or, length-take-le}
use Rattle.lists.proofs.Tests.{either}
use Rattle.std.specs.Prelude.{Ok}
use Rattle.plan.specs.declared.Scan.{Scan}
use Rattle.plan.specs.declared.SlotRecord.{SlotRecord}
use Rattle.plan.specs.declared.SlotDefinition.{SlotDefinition}
use Rattle.plan.specs.declared.Plan.{Plan}
use Rattle.plan.specs.declared.Access.{Access}
use Rattle.plan.specs.declared.Access.TheVariants.{Reads, Writes}
use Rattle.plan.specs.Plan.{first_slot, second_slot, first_access, second_access, is_constant, variable_slot, zero_scan, scans_of, slots_of, slots_selected, SamePlan, Filled}
use Rattle.plan_check.specs.Check.{writes_to, first_writes, second_writes, is_written, is_set, check_of}
use Rattle.plan_check.specs.Promised.{Promised}
use Rattle.plan_check.proofs.Promises.{promises}
use Rattle.text_pieces.specs.Ascii.{ascii}
use Rattle.plan_text.specs.Text.{constant_lines, scan_lines, selects_text, text_of}
use Rattle.plan_text.proofs.ConstantParts.{is_l, constants-parts}
use Rattle.plan_text.proofs.ScanParts.{behind-constants, behind-first}

writes-it : (a : Access) (x k : ℕ) → writes_to a x k ≡ true → x ≡ k
writes-it Reads x k e = absurd (false≢true e)
writes-it Writes x k e = eqb-true x k e

-- a slot that is is_written is named
written-named : (n : ℕ) (ss : List Scan) (k : ℕ) → ((j : ℕ) → j < length ss → ((first_slot (get_or ss j zero_scan)).0 < n) × ((second_slot (get_or ss j zero_scan)).0 < n))
    → is_written ss k ≡ true → k < n
unfolding is_written
written-named n [] k h e = absurd (false≢true e)
written-named n (s ∷ ss) k h e =
    let named = h 0 (omega arith) in
    ⊎_elim
    (λ (b : (first_writes s k || second_writes s k) ≡ true). ⊎_elim
    (λ (f : first_writes s k ≡ true). let z = writes-it (first_access s.flow) (first_slot s).0 k f in let g = named.0 in omega arith)
    (λ (f : second_writes s k ≡ true). let z = writes-it (second_access s.flow) (second_slot s).0 k f in let g = named.1 in omega arith)
    (either (first_writes s k) (second_writes s k) b))
    (λ (w : is_written ss k ≡ true). written-named n ss k (λ j g. h (suc j) (omega arith)) w)
    (either (first_writes s k || second_writes s k) (is_written ss k) e)

-- slots with the same constants, and the same scans: neither are more
abbrev SameDefinitions : List SlotRecord → List SlotRecord → Type 0
SameDefinitions a b = (i : ℕ) → (get_or a i variable_slot).definition ≡ (get_or b i variable_slot).definition

no_more : (a b : List SlotRecord) (ss : List Scan) → SameDefinitions a b → ((k : ℕ) → k < length b → is_set b ss k ≡ true)
    → ((j : ℕ) → j < length ss → ((first_slot (get_or ss j zero_scan)).0 < length a) × ((second_slot (get_or ss j zero_scan)).0 < length a)) → length b ≤ length a
unfolding is_set
no_more a b ss same all named =
    ⊎_elim (λ (h : min (length b) (length a) ≡ length b). omega arith)
    (λ (h : min (length b) (length a) < length b).
    let k = length a in
    let l : k < length b = omega arith in
    let d : is_constant (get_or b k variable_slot).definition ≡ false = ap is_constant (sym (same k)) ∙ ap (λ (s : SlotRecord). is_constant s.definition) (get_or-eq_default a variable_slot {n = k} (omega arith)) in
    ⊎_elim (λ (c : is_constant (get_or b k variable_slot).definition ≡ true). absurd (false≢true (sym d ∙ c)))
    (λ (w : is_written ss k ≡ true). let z = written-named k ss k named w in omega arith)
    (either (is_constant (get_or b k variable_slot).definition) (is_written ss k) (all k l)))
    (eq-or-lt_of_le (min-le_left (length b) (length a)))

names-slots : (p : Plan) → Promised p → (j : ℕ) → j < length (scans_of p) → ((first_slot (get_or (scans_of p) j zero_scan)).0 < length (slots_of p)) × ((second_slot (get_or (scans_of p) j zero_scan)).0 < length (slots_of p))
names-slots p w j h = let f = w.scans_fit j h in (f.first_named, f.second_named)

record_with : SlotDefinition → SlotRecord
record_with d = record { definition = d }

-- the lists that the counts leave are equal
pub record SameParts (p q : Plan) : Type 0 where
  pub scans : scans_of p ≡ scans_of q
  pub slots : slots_of p ≡ slots_of q
  pub selects : slots_selected p ≡ slots_selected q

module _ (p q : Plan) (names ends : List ℕ) where
  regrouped : (r : Plan) → text_of r names ends ≡ constant_lines (slots_of r) 0 ++ (scan_lines (slots_of r) names ends (scans_of r) ++ (ascii "yield " ++ selects_text (slots_of r) names ends (slots_selected r)))
  unfolding text_of
  regrouped r = simp append_assoc

  pub text-tells-parts : check_of p ≡ Ok tt → check_of q ≡ Ok tt → text_of p names ends ≡ text_of q names ends → SameParts p q
  unfolding record_with
  text-tells-parts fine fine' e =
      let v = promises p fine in
      let w = promises q fine' in
      let o = constants-parts (slots_of p) (slots_of q) _ _ (behind-first is_l (slots_of p) names ends (scans_of p) _ refl refl) (behind-first is_l (slots_of q) names ends (scans_of q) _ refl refl)
      (sym (regrouped p) ∙ e ∙ regrouped q) in
      let b = behind-constants (slots_of p) (slots_of q) names ends (scans_of p) (scans_of q) (slots_selected p) (slots_selected q) o.1 in
      let same : scans_of p ≡ scans_of q = b.0 in
      let le : length (slots_of q) ≤ length (slots_of p) = no_more (slots_of p) (slots_of q) (scans_of p) o.0 (rw same w.all_set) (names-slots p v) in
      let ge : length (slots_of p) ≤ length (slots_of q) = no_more (slots_of q) (slots_of p) (scans_of p) (λ i. sym (o.0 i)) v.all_set (rw same (names-slots q w)) in
      record {
        scans = same;
        slots = ext_get_or variable_slot (slots_of p) (slots_of q) (omega arith) (λ i h. ap record_with (o.0 i));
        selects = b.1;
      }

-- the counts are the lengths of what they leave
pub record Counts (p : Plan) : Type 0 where
  pub scans : length (scans_of p) ≡ p.scan_count
  pub slots : length (slots_of p) ≡ p.slot_count
  pub selects : length (slots_selected p) ≡ p.select_count

counts : (p : Plan) → Filled p → Promised p → Counts p
counts p f w =
    let a = f.many_scans in
    let b = f.many_slots in
    let d = f.many_selects in
    let h = w.few_scans in
    let g = w.few_slots in
    let k = w.few_selects in
    record {
      scans = length-take-le p.scan_count p.scans (rw a h);
      slots = length-take-le p.slot_count p.slots (rw b g);
      selects = length-take-le p.select_count p.select (rw d k);
    }

pub text-tells : (p q : Plan) (names ends : List ℕ) → Filled p → Filled q → check_of p ≡ Ok tt → check_of q ≡ Ok tt → text_of p names ends ≡ text_of q names ends → SamePlan p q
text-tells p q names ends f f' fine fine' e =
    let o = text-tells-parts p q names ends fine fine' e in
    let v = counts p f (promises p fine) in
    let w = counts q f' (promises q fine') in
    record {
      scan_counts = sym v.scans ∙ ap length o.scans ∙ w.scans;
      slot_counts = sym v.slots ∙ ap length o.slots ∙ w.slots;
      select_counts = sym v.selects ∙ ap length o.selects ∙ w.selects;
      scans = o.scans;
      slots = o.slots;
      selects = o.selects;
    }
