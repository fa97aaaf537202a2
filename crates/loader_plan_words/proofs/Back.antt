-- Reading what was written gives the plan back.
use mathlib.Core.Path.{◌≡◌, refl, ap, ◌∙◌}
use Prim.Native.Nat.{ℕ, zero, suc, ◌+◌, ◌*◌, ◌<◌, ◌≤◌}
use mathlib.Core.List.{List, [], ◌∷◌, ◌++◌}
use native.Mathlib.Omega.{arith}
use native.Mathlib.Nat.{not-suc-le-zero, le_of_suc-le-suc, min-eq_left}
use lib.ListN.{length, get_or, get_or-append}
use lib.Seq.{get_or-append-add}
use Rattle.capacity.specs.Capacity.{max_scans, max_slots, max_selects}
use Rattle.plan.specs.declared.Slot.{Slot}
use Rattle.plan.specs.declared.SlotDefinition.{SlotDefinition}
use Rattle.plan.specs.declared.SlotDefinition.TheVariants.{Variable, Constant}
use Rattle.plan.specs.declared.Plan.{Plan}
use Rattle.plan.specs.declared.Index.{Index}
use Rattle.plan.specs.declared.Index.TheVariants.{Aevt, Avet, Eavt}
use Rattle.plan.specs.declared.Flow.{Flow}
use Rattle.plan.specs.declared.Flow.TheVariants.{OutOut, InOut, InIn}
use Rattle.plan.specs.Codes.{index_code, flow_code}
use Rattle.plan.specs.Plan.{zero_scan, variable_slot, zero_slot, Filled}
use Rattle.query.specs.Query.{largest}
use Rattle.lists.specs.Laid.{laid}
use Rattle.lists.proofs.Tabled.{tabled-same}
use Rattle.loader_words.specs.Words.{word_slot, index_of, flow_of, definition_of, word, scan_words, slot_words, scans_at, slots_at, select_at, scan_at, slot_at, selected_at, scans_in, slots_in, selects_in, plan_of_words}
use Rattle.loader_plan_words.specs.Write.{constant_word, value_word, words_of_scan, words_of_slot, words_of_select, count_words, words_of_plan}
use Rattle.loader_plan_words.proofs.Written.{front_long, middle-long}

module _ {A : Type 0} (f : A → List ℕ) (k : ℕ) (each : (x : A) → length (f x) ≡ k) where
  -- word j of record i
  laid-at : (l : List A) (i j : ℕ) (z : A) → i < length l → j < k → get_or (laid f l) (k * i + j) 0 ≡ get_or (f (get_or l i z)) j 0
  unfolding laid
  laid-at [] i j z h m = absurd (not-suc-le-zero h)
  laid-at (x ∷ l) zero j z h m =
      let e : k * 0 + j ≡ j = omega arith in
      rw e (get_or-append (f x) (laid f l) 0 j (rw (each x) m))
  laid-at (x ∷ l) (suc i) j z h m =
      let e : k * suc i + j ≡ length (f x) + (k * i + j) = rw (each x) (omega arith) in
      rw e (get_or-append-add (f x) (laid f l) (k * i + j) 0 ∙ laid-at l i j z (le_of_suc-le-suc h) m)

-- an index and a flow, a slot's record, a number
index_back : (x : Index) (f : Flow) → index_of (index_code x) (flow_code f) ≡ x
index_back Aevt OutOut = refl
index_back Aevt InOut = refl
index_back Aevt InIn = refl
index_back Avet OutOut = refl
index_back Avet InOut = refl
index_back Avet InIn = refl
index_back Eavt OutOut = refl
index_back Eavt InOut = refl
index_back Eavt InIn = refl

flow-back : (x : Index) (f : Flow) → flow_of (index_code x) (flow_code f) ≡ f
flow-back Aevt OutOut = refl
flow-back Aevt InOut = refl
flow-back Aevt InIn = refl
flow-back Avet OutOut = refl
flow-back Avet InOut = refl
flow-back Avet InIn = refl
flow-back Eavt OutOut = refl
flow-back Eavt InOut = refl
flow-back Eavt InIn = refl

definition-back : (d : SlotDefinition) → definition_of (constant_word d) (value_word d) ≡ d
definition-back Variable = refl
definition-back (Constant v) = refl

slot-back : (s : Slot) → s.0 ≤ largest → word_slot s.0 ≡ s
slot-back s h = rw (min-eq_left h) refl

-- the numbers of slots are u16, as the code holds them
pub record Small (p : Plan) : Type 0 where
  pub entities : (i : ℕ) → i < max_scans → (get_or p.scans i zero_scan).entity.0 ≤ largest
  pub values : (i : ℕ) → i < max_scans → (get_or p.scans i zero_scan).value.0 ≤ largest
  pub selects : (i : ℕ) → i < max_selects → (get_or p.select i zero_slot).0 ≤ largest

module _ (p : Plan) (full : Filled p) (small : Small p) where
  scan-word : (i j : ℕ) → i < max_scans → j < scan_words → word (words_of_plan p) (scans_at + scan_words * i + j) ≡ get_or (words_of_scan (get_or p.scans i zero_scan)) j 0
  scan-word i j h m =
      let s = laid words_of_scan p.scans in
      let e : scans_at + scan_words * i + j ≡ length (count_words p) + (scan_words * i + j) = omega arith in
      get_or-append (count_words p ++ s ++ laid words_of_slot p.slots) (laid words_of_select p.select) 0 (scans_at + scan_words * i + j) (omega (arith, middle-long p full)) ∙
      get_or-append (count_words p ++ s) (laid words_of_slot p.slots) 0 (scans_at + scan_words * i + j) (omega (arith, front_long p full)) ∙
      ap (λ (n : ℕ). get_or (count_words p ++ s) n 0) e ∙ get_or-append-add (count_words p) s (scan_words * i + j) 0 ∙ laid-at words_of_scan scan_words (λ _. refl) p.scans i j zero_scan (rw full.many_scans h) m

  slot-word : (i j : ℕ) → i < max_slots → j < slot_words → word (words_of_plan p) (slots_at + slot_words * i + j) ≡ get_or (words_of_slot (get_or p.slots i variable_slot)) j 0
  slot-word i j h m =
      let front = count_words p ++ laid words_of_scan p.scans in
      let l = laid words_of_slot p.slots in
      let e : slots_at + slot_words * i + j ≡ length front + (slot_words * i + j) = rw (front_long p full) (omega arith) in
      get_or-append (front ++ l) (laid words_of_select p.select) 0 (slots_at + slot_words * i + j) (omega (arith, middle-long p full)) ∙
      ap (λ (n : ℕ). get_or (front ++ l) n 0) e ∙ get_or-append-add front l (slot_words * i + j) 0 ∙ laid-at words_of_slot slot_words (λ _. refl) p.slots i j variable_slot (rw full.many_slots h) m

  select_word : (i : ℕ) → i < max_selects → word (words_of_plan p) (select_at + i) ≡ (get_or p.select i zero_slot).0
  select_word i h =
      let front = count_words p ++ laid words_of_scan p.scans ++ laid words_of_slot p.slots in
      let l = laid words_of_select p.select in
      let e : select_at + i ≡ length front + (1 * i + 0) = rw (middle-long p full) (omega arith) in
      ap (λ (n : ℕ). get_or (front ++ l) n 0) e ∙ get_or-append-add front l (1 * i + 0) 0 ∙ laid-at words_of_select 1 (λ _. refl) p.select i 0 zero_slot (rw full.many_selects h) (omega arith)

  scan-back : (i : ℕ) → i < max_scans → scan_at (words_of_plan p) i ≡ get_or p.scans i zero_scan
  scan-back i h =
      let s = get_or p.scans i zero_scan in
      let z : scans_at + scan_words * i ≡ scans_at + scan_words * i + 0 = omega arith in
      let first : word (words_of_plan p) (scans_at + scan_words * i) ≡ index_code s.index = ap (word (words_of_plan p)) z ∙ scan-word i 0 h (omega arith) in
      rw (first, scan-word i 1 h (omega arith), scan-word i 2 h (omega arith), scan-word i 3 h (omega arith), scan-word i 4 h (omega arith), index_back s.index s.flow, flow-back s.index s.flow, slot-back s.entity (small.entities i h), slot-back s.value (small.values i h)) refl

  slot-record-back : (i : ℕ) → i < max_slots → slot_at (words_of_plan p) i ≡ get_or p.slots i variable_slot
  slot-record-back i h =
      let s = get_or p.slots i variable_slot in
      let z : slots_at + slot_words * i ≡ slots_at + slot_words * i + 0 = omega arith in
      let first : word (words_of_plan p) (slots_at + slot_words * i) ≡ constant_word s.definition = ap (word (words_of_plan p)) z ∙ slot-word i 0 h (omega arith) in
      rw (first, slot-word i 1 h (omega arith), definition-back s.definition) refl

  select-back : (i : ℕ) → i < max_selects → selected_at (words_of_plan p) i ≡ get_or p.select i zero_slot
  select-back i h = rw (select_word i h) (slot-back (get_or p.select i zero_slot) (small.selects i h))

  pub plan-back : plan_of_words (words_of_plan p) ≡ p
  plan-back =
      let scans : scans_in (words_of_plan p) ≡ p.scans = tabled-same (scan_at (words_of_plan p)) p.scans zero_scan max_scans full.many_scans scan-back in
      let slots : slots_in (words_of_plan p) ≡ p.slots = tabled-same (slot_at (words_of_plan p)) p.slots variable_slot max_slots full.many_slots slot-record-back in
      let select : selects_in (words_of_plan p) ≡ p.select = tabled-same (selected_at (words_of_plan p)) p.select zero_slot max_selects full.many_selects select-back in
      rw (scans, slots, select) refl
