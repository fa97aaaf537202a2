-- Where the indexes of other scans are put over a plan's words, the words say the plan with these scans: the flow word beside each is one.
use mathlib.Core.Path.{◌≡◌, refl, sym, ap, ◌∙◌, fun_ext}
use Prim.Native.Nat.{ℕ, ◌+◌, ◌*◌, ◌-◌, ◌<◌, ◌≤◌}
use mathlib.Core.List.{List, ◌++◌}
use mathlib.Core.Bool.{Bool, true, false, false≢true}
use native.Mathlib.Omega.{arith}
use borrow.Author.Tests.{ltb-true, ltb-false}
use lib.ListN.{length, get_or, drop, get_or-append, length-append, length-drop}
use lib.Seq.{get_or-append-add, get_or-drop}
use lib.Dec.{ltb}
use Rattle.capacity.specs.Capacity.{max_scans, max_slots, max_selects}
use Rattle.lists.specs.Tabled.{tabled}
use Rattle.lists.proofs.Tests.{neither}
use Rattle.lists.proofs.Tabled.{tabled-at, tabled-length, tabled-same}
use Rattle.plan.specs.declared.Scan.{Scan}
use Rattle.plan.specs.declared.Slot.{Slot}
use Rattle.plan.specs.declared.SlotRecord.{SlotRecord}
use Rattle.plan.specs.declared.Index.{Index}
use Rattle.plan.specs.declared.Index.TheVariants.{Aevt, Avet, Eavt}
use Rattle.plan.specs.Codes.{index_code}
use Rattle.plan.specs.Plan.{out_out_eavt, zero_scan}
use Rattle.loader_words.specs.Words.{word, scan_words, slot_words, slots_at, select_at, plan_words, is_no_kind, index_of, flow_of, scan_at, slot_at, selected_at, scans_in, slots_in, selects_in, plan_of_words}
use Rattle.loader_plan_words.specs.Write.{index_at, with_indexes}
use Rattle.loader_plan_words.proofs.Indexes.{indexes-other, indexes-at}

-- two words that do not say out-out over eavt are an index and a flow
is-kind : (w f : ℕ) → out_out_eavt (flow_of w f) (index_of w f) ≡ false → is_no_kind w f ≡ false
is-kind w f h = go (is_no_kind w f) refl
  where
    go : (t : Bool) → is_no_kind w f ≡ t → is_no_kind w f ≡ false
    go true e = absurd (false≢true (sym h ∙ simp e))
    go false e = e

-- and with another index beside it the flow stays
index_kept : (x : Index) (f : ℕ) → ltb 2 f ≡ false → index_of (index_code x) f ≡ x
index_kept Aevt f e = rw e
index_kept Avet f e = rw e
index_kept Eavt f e = rw e

flow-kept : (x : Index) (w f : ℕ) → is_no_kind w f ≡ false → ltb 2 f ≡ false → flow_of (index_code x) f ≡ flow_of w f
flow-kept Aevt w f k e = rw (k, e)
flow-kept Avet w f k e = rw (k, e)
flow-kept Eavt w f k e = rw (k, e)

-- two scans that differ in the index at most
pub record SameButIndex (s t : Scan) : Type 0 where
  pub flows : s.flow ≡ t.flow
  pub entities : s.entity ≡ t.entity
  pub attributes : s.attribute ≡ t.attribute
  pub values : s.value ≡ t.value

module _ (ws : List ℕ) (ss : List Scan) (long : length ws ≡ plan_words) (few : length ss ≤ max_scans)
    (fine : (i : ℕ) → i < length ss → out_out_eavt (scan_at ws i).flow (scan_at ws i).index ≡ false)
    (same : (i : ℕ) → i < length ss → SameButIndex (scan_at ws i) (get_or ss i zero_scan)) where
  abbrev after : List ℕ
  after = with_indexes ss 0 ws

  stays : (j : ℕ) → ((n : ℕ) → n < length ss → j ≡ index_at n → ⊥) → word after j ≡ word ws j
  stays j h = indexes-other ss 0 ws j (λ n m e. h n m (omega arith))

  index-put : (i : ℕ) → i < length ss → word after (index_at i) ≡ index_code (get_or ss i zero_scan).index
  index-put i h =
      let z : 0 + i ≡ i = omega arith in
      rw z at (indexes-at ss 0 ws i h (omega arith))

  scan-put : (i : ℕ) → i < length ss → scan_at after i ≡ get_or ss i zero_scan
  scan-put i h =
      let s = get_or ss i zero_scan in
      let w = word ws (index_at i) in
      let f = word ws (index_at i + 1) in
      let k = is-kind w f (fine i h) in
      let e = (neither (ltb 2 w) (ltb 2 f) k).1 in
      let kept : (j : ℕ) → j < scan_words → 0 < j → word after (index_at i + j) ≡ word ws (index_at i + j) = λ j m n. stays (index_at i + j) (λ o p q. omega arith) in
      let b = same i h in
      rw (index-put i h, kept 1 (omega arith) (omega arith), kept 2 (omega arith) (omega arith), kept 3 (omega arith) (omega arith), kept 4 (omega arith) (omega arith), index_kept s.index f e, flow-kept s.index w f k e, b.flows, b.entities, b.attributes, b.values) refl

  scan-stays : (i : ℕ) → length ss ≤ i → scan_at after i ≡ scan_at ws i
  scan-stays i h =
      let kept : (j : ℕ) → j < scan_words → word after (index_at i + j) ≡ word ws (index_at i + j) = λ j m. stays (index_at i + j) (λ o p q. omega arith) in
      let first : word after (index_at i) ≡ word ws (index_at i) = stays (index_at i) (λ o p q. omega arith) in
      rw (first, kept 1 (omega arith), kept 2 (omega arith), kept 3 (omega arith), kept 4 (omega arith)) refl

  scans-after : scans_in after ≡ ss ++ drop (length ss) (scans_in ws)
  scans-after =
      let l = ss ++ drop (length ss) (scans_in ws) in
      let m = tabled-length (scan_at ws) max_scans in
      let all : length l ≡ max_scans = simp (length-append, length-drop, m) (omega arith) in
      tabled-same (scan_at after) l zero_scan max_scans all (λ i h. each i h (ltb i (length ss)) refl)
    where
      each : (i : ℕ) → i < max_scans → (t : Bool) → ltb i (length ss) ≡ t → scan_at after i ≡ get_or (ss ++ drop (length ss) (scans_in ws)) i zero_scan
      each i h true e =
          let n : i < length ss = ltb-true _ _ e in
          scan-put i n ∙ sym (get_or-append ss (drop (length ss) (scans_in ws)) zero_scan i n)
      each i h false e =
          let n : length ss ≤ i = ltb-false _ _ e in
          let far : length ss + (i - length ss) ≡ i = omega arith in
          let past : get_or (ss ++ drop (length ss) (scans_in ws)) (length ss + (i - length ss)) zero_scan ≡ scan_at ws i =
          get_or-append-add ss (drop (length ss) (scans_in ws)) (i - length ss) zero_scan ∙ get_or-drop (length ss) (scans_in ws) (i - length ss) zero_scan ∙
          rw far (tabled-at (scan_at ws) max_scans i zero_scan h) in
          scan-stays i n ∙ sym (rw far at past)

  slot-stays : (i : ℕ) → slot_at after i ≡ slot_at ws i
  slot-stays i = rw (stays (slots_at + slot_words * i) (λ o p q. omega arith), stays (slots_at + slot_words * i + 1) (λ o p q. omega arith)) refl

  select-stays : (i : ℕ) → selected_at after i ≡ selected_at ws i
  select-stays i = rw (stays (select_at + i) (λ o p q. omega arith)) refl

  pub indexes-say : plan_of_words after ≡ record {
    scans = ss ++ drop (length ss) (scans_in ws);
    scan_count = word ws 0;
    slots = slots_in ws;
    slot_count = word ws 1;
    select = selects_in ws;
    select_count = word ws 2;
  }
  indexes-say =
      let slots : slots_in after ≡ slots_in ws = ap (λ (g : ℕ → SlotRecord). tabled g max_slots) (fun_ext slot-stays) in
      let select : selects_in after ≡ selects_in ws = ap (λ (g : ℕ → Slot). tabled g max_selects) (fun_ext select-stays) in
      rw (scans-after, slots, select, stays 0 (λ o p q. omega arith), stays 1 (λ o p q. omega arith), stays 2 (λ o p q. omega arith)) refl
