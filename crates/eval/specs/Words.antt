-- How evaluation lays out a plan's scans as words, so that no scan is copied at a row: table, inputs, attribute, and the two slots in index
-- order.
use Rattle.std.specs.Prelude.{◌≡◌, ℕ, ◌+◌, ◌*◌, ◌≤◌, ◌<◌, List, [], ◌∷◌, length, get_or}
use Rattle.plan.specs.declared.Slot.{Slot}
use Rattle.plan.specs.declared.Scan.{Scan}
use Rattle.plan.specs.Codes.{index_code, index_of_code, flow_of_code}
use Rattle.plan.specs.Plan.{in_order, first_slot, second_slot, zero_scan}
use Rattle.visits.specs.Visits.{inputs}
use Rattle.visits.specs.Sound.{Sound}

-- five words a scan
abbrev pub laid_words : ℕ
laid_words = 5

unfoldable pub words_of : List Scan → List ℕ
words_of [] = []
words_of (s ∷ ss) = index_code s.index ∷ inputs s.flow ∷ s.attribute.0 ∷ (first_slot s).0 ∷ (second_slot s).0 ∷ words_of ss

-- the other way round
abbrev pub laid_slot : ℕ → Slot
laid_slot n = record { 0 = n }

abbrev pub laid_scan : ℕ → ℕ → ℕ → ℕ → ℕ → Scan
laid_scan x f a y z = record {
  index = index_of_code x;
  flow = flow_of_code f;
  entity = in_order (index_of_code x) (laid_slot y) (laid_slot z);
  attribute = record { 0 = a };
  value = in_order (index_of_code x) (laid_slot z) (laid_slot y);
}

unfoldable pub scans_in : List ℕ → List Scan
scans_in [] = []
scans_in (x ∷ []) = []
scans_in (x ∷ f ∷ []) = []
scans_in (x ∷ f ∷ a ∷ []) = []
scans_in (x ∷ f ∷ a ∷ y ∷ []) = []
scans_in (x ∷ f ∷ a ∷ y ∷ z ∷ ws) = laid_scan x f a y z ∷ scans_in ws

-- the words of scan i say what the scan is, and its slots are among the first `slots`
pub record LiesAt (ws : List ℕ) (slots i : ℕ) : Type 0 where
  pub whole : laid_words * i + laid_words ≤ length ws
  pub index_is : get_or ws (laid_words * i) 0 ≡ index_code (get_or (scans_in ws) i zero_scan).index
  pub inputs_is : get_or ws (laid_words * i + 1) 0 ≡ inputs (get_or (scans_in ws) i zero_scan).flow
  pub few_inputs : get_or ws (laid_words * i + 1) 0 ≤ 2
  pub attribute_is : get_or ws (laid_words * i + 2) 0 ≡ (get_or (scans_in ws) i zero_scan).attribute.0
  pub first_is : get_or ws (laid_words * i + 3) 0 ≡ (first_slot (get_or (scans_in ws) i zero_scan)).0
  pub first_in : get_or ws (laid_words * i + 3) 0 < slots
  pub second_is : get_or ws (laid_words * i + 4) 0 ≡ (second_slot (get_or (scans_in ws) i zero_scan)).0
  pub second_in : get_or ws (laid_words * i + 4) 0 < slots

-- words that are those of scans, and of such as a plan with that number of slots has that passes the check
pub record Laid (ws : List ℕ) (slots : ℕ) : Type 0 where
  pub words_are : ws ≡ words_of (scans_in ws)
  pub sound : Sound slots (scans_in ws)
