-- Scans as words: each word of a scan is where it is looked for, and the scans can be read back.
use mathlib.Core.Path.{◌≡◌, refl, ap, ◌∙◌}
use mathlib.Core.List.{List, [], ◌∷◌}
use Prim.Native.Nat.{ℕ, zero, suc, ◌+◌, ◌*◌, ◌<◌, ◌≤◌}
use native.Mathlib.Omega.{arith}
use native.Mathlib.Nat.{add-zero}
use lib.ListN.{length, get_or}
use Rattle.plan.specs.declared.Slot.{Slot}
use Rattle.plan.specs.declared.Scan.{Scan}
use Rattle.plan.specs.declared.Index.{Index}
use Rattle.plan.specs.declared.Index.TheVariants.{Aevt, Avet, Eavt}
use Rattle.plan.specs.declared.Flow.{Flow}
use Rattle.plan.specs.declared.Flow.TheVariants.{OutOut, InOut, InIn}
use Rattle.plan.specs.Codes.{index_code, index_of_code}
use Rattle.plan.specs.Plan.{in_order, first_slot, second_slot, zero_scan}
use Rattle.plan.proofs.Codes.{index-code-back, flow-code-back}
use Rattle.visits.specs.Visits.{Tables, table_of, inputs}
use Rattle.eval.specs.Words.{laid_words, laid_scan, words_of, scans_in, LiesAt, Laid}

in-order-twice : (x : Index) (e v : Slot) → in_order x (in_order x e v) (in_order x v e) ≡ e
in-order-twice Aevt e v = refl
in-order-twice Avet e v = refl
in-order-twice Eavt e v = refl

-- a scan is read back from its words
scan-back : (s : Scan) → laid_scan (index_code s.index) (inputs s.flow) s.attribute.0 (first_slot s).0 (second_slot s).0 ≡ s
scan-back s =
    rw (index-code-back s.index, flow-code-back s.flow, in-order-twice s.index s.entity s.value, in-order-twice s.index s.value s.entity)

pub scans-back : (ss : List Scan) → scans_in (words_of ss) ≡ ss
unfolding scans_in words_of
scans-back [] = refl
scans-back (s ∷ ss) = rw (scan-back s, scans-back ss)

-- scan s lies in the words at number i
record At (ws : List ℕ) (i : ℕ) (s : Scan) : Type 0 where
  whole : laid_words * i + laid_words ≤ length ws
  index_is : get_or ws (laid_words * i) 0 ≡ index_code s.index
  inputs_is : get_or ws (laid_words * i + 1) 0 ≡ inputs s.flow
  attribute_is : get_or ws (laid_words * i + 2) 0 ≡ s.attribute.0
  first_is : get_or ws (laid_words * i + 3) 0 ≡ (first_slot s).0
  second_is : get_or ws (laid_words * i + 4) 0 ≡ (second_slot s).0

-- after the words of one more scan they all lie one scan further on
module _ (x f a y z : ℕ) (ws : List ℕ) (i : ℕ) where
  word-later : (k : ℕ) → get_or (x ∷ f ∷ a ∷ y ∷ z ∷ ws) (laid_words * suc i + k) 0 ≡ get_or ws (laid_words * i + k) 0
  word-later k = let e : laid_words * suc i + k ≡ suc (suc (suc (suc (suc (laid_words * i + k))))) = omega arith in rw e refl

  lies-later : (s : Scan) → At ws i s → At (x ∷ f ∷ a ∷ y ∷ z ∷ ws) (suc i) s
  lies-later s h = record {
    whole = omega (arith, h.whole);
    index_is = (simp add-zero at (word-later 0)) ∙ h.index_is;
    inputs_is = word-later 1 ∙ h.inputs_is;
    attribute_is = word-later 2 ∙ h.attribute_is;
    first_is = word-later 3 ∙ h.first_is;
    second_is = word-later 4 ∙ h.second_is;
  }

scans-lie : (ss : List Scan) (i : ℕ) → i < length ss → At (words_of ss) i (get_or ss i zero_scan)
unfolding words_of
scans-lie [] i l = absurd (omega arith)
scans-lie (s ∷ ss) zero l = record { whole = omega arith; index_is = refl; inputs_is = refl; attribute_is = refl; first_is = refl; second_is = refl }
scans-lie (s ∷ ss) (suc i) l = lies-later _ _ _ _ _ (words_of ss) i (get_or ss i zero_scan) (scans-lie ss i (omega arith))

few_inputs : (f : Flow) → inputs f ≤ 2
few_inputs OutOut = omega arith
few_inputs InOut = omega arith
few_inputs InIn = omega arith

-- the words of scan i, where the words are those of scans
pub laid-lies : {ws : List ℕ} {slots : ℕ} → Laid ws slots → (i : ℕ) → i < length (scans_in ws) → LiesAt ws slots i
laid-lies {ws} h i l =
    let s = get_or (scans_in ws) i zero_scan in
    let a = go ws h.words_are in
    record {
      whole = a.whole;
      index_is = a.index_is;
      inputs_is = a.inputs_is;
      few_inputs = rw a.inputs_is (few_inputs s.flow);
      attribute_is = a.attribute_is;
      first_is = a.first_is;
      first_in = rw a.first_is (h.sound i l).first_in;
      second_is = a.second_is;
      second_in = rw a.second_is (h.sound i l).second_in;
    }
  where
    go : (vs : List ℕ) → vs ≡ words_of (scans_in ws) → At vs i (get_or (scans_in ws) i zero_scan)
    go vs e = rw e (scans-lie (scans_in ws) i l)

words-length : (ss : List Scan) → length (words_of ss) ≡ laid_words * length ss
unfolding words_of
words-length [] = refl
words-length (s ∷ ss) = let e = words-length ss in omega arith

-- how many words there are
pub laid-length : {ws : List ℕ} {slots : ℕ} → Laid ws slots → length ws ≡ laid_words * length (scans_in ws)
laid-length {ws} h = ap length h.words_are ∙ words-length (scans_in ws)

-- the table with the number that was read is the scan's
pub table_is : {ws : List ℕ} {n i : ℕ} → LiesAt ws n i → (ts : Tables) (t : List ℕ) → t ≡ table_of ts (index_of_code (get_or ws (laid_words * i) 0))
    → t ≡ table_of ts (get_or (scans_in ws) i zero_scan).index
table_is {ws} {n} {i} h ts t e = e ∙ ap (λ (k : ℕ). table_of ts (index_of_code k)) h.index_is ∙ ap (table_of ts) (index-code-back (get_or (scans_in ws) i zero_scan).index)
