-- What a plan's visits leave in the slots: each list that keeps what no scan writes and in which every scan states a fact, once, and no
-- other. By induction on the scans: the row at which a scan stands is known by the fact that its slots state.
use mathlib.Core.Path.{◌≡◌, refl, sym, ap, ◌∙◌, fun_ext}
use mathlib.Core.Bool.{Bool, true, false, ◌&&◌}
use mathlib.Core.List.{List, [], ◌∷◌, map}
use Prim.Native.Nat.{ℕ, zero, suc, ◌+◌, ◌≤◌, ◌<◌, suc-le-suc}
use native.Mathlib.Omega.{arith}
use lib.ListN.{length, get_or, take, drop}
use lib.Seq.{ext_get_or}
use Rattle.datom.specs.Fact.{Fact}
use Rattle.orders.specs.Times.{same, times_in}
use Rattle.orders.proofs.Counts.{holds-yes, holds-no}
use Rattle.search.proofs.Arranged.{sum}
use Rattle.tables.specs.Rows.{count, row, rows_of, begins, matching}
use Rattle.tables.specs.Check.{is_among}
use Rattle.tables.specs.Passed.{Once, Passed}
use Rattle.tables.proofs.Order.{both}
use Rattle.tables.proofs.Table.{among-at}
use Rattle.tables.proofs.SameFacts.{among-where}
use Rattle.tables.proofs.Pigeonhole.{equal-same}
use Rattle.plan.specs.declared.Scan.{Scan}
use Rattle.plan.specs.declared.Index.{Index}
use Rattle.plan.specs.declared.Index.TheVariants.{Aevt, Avet, Eavt}
use Rattle.plan.specs.Plan.{zero_scan}
use Rattle.plan_check.specs.Check.{is_written}
use Rattle.visits.specs.Visits.{Tables, table_of, row_for, inputs, wanted, visited, standing, visits, slots_at}
use Rattle.visits.specs.Sound.{Steady, Agree}
use Rattle.visits.proofs.Slots.{key-agree, standing-length, standing-agree, standing-back}
use Rattle.visits.proofs.Steady.{Last}
use Rattle.meaning.specs.Demand.{is_fact}
use Rattle.meaning.proofs.Row.{row_back, begins-own, in-order, stands-wanted, stands-still}
use Rattle.meaning.proofs.Counted.{times-each, sum_one, sum-some}

-- what the slots say at each visit, once all scans stand at a row
abbrev pub finals : Tables → List Scan → List ℕ → List (List ℕ)
finals ts ss slots = map (slots_at ts ss slots) (visits ts ss slots)

-- every scan states a fact
unfoldable pub scan_facts : Tables → List Scan → List ℕ → Bool
scan_facts ts [] slots = true
scan_facts ts (s ∷ ss) slots = is_fact ts (wanted s slots) && scan_facts ts ss slots

-- what scans may leave of some slots
pub record Fitting (ts : Tables) (ss : List Scan) (slots final : List ℕ) : Type 0 where
  pub long : length final ≡ length slots
  pub agree : Agree ss final slots
  pub facts : scan_facts ts ss final ≡ true

-- what is asked of the scans, of so many slots: no scan writes what is read or set before it
abbrev pub Stays : ℕ → List Scan → Type 0
Stays n ss = (i : ℕ) → i < length ss → Steady n (get_or ss i zero_scan) (drop (suc i) ss) × Last (get_or ss i zero_scan) (drop (suc i) ss)

same-wanted : (s : Scan) (a b : List ℕ) → get_or a s.entity.0 0 ≡ get_or b s.entity.0 0 → get_or a s.value.0 0 ≡ get_or b s.value.0 0
    → wanted s a ≡ wanted s b
same-wanted s a b p q = rw (p, q)

module _ (ts : Tables) where
  front : (s : Scan) (ss : List Scan) (slots : List ℕ) (k : ℕ) (ws : List (List ℕ))
      → map (slots_at ts (s ∷ ss) slots) (map (λ w. k ∷ w) ws) ≡ map (slots_at ts ss (standing ts s slots k)) ws
  unfolding slots_at
  front s ss slots k [] = refl
  front s ss slots k (w ∷ ws) = ap (λ (l : List (List ℕ)). slots_at ts ss (standing ts s slots k) w ∷ l) (front s ss slots k ws)

  -- one scan more in front
  times-step : (y : List ℕ) (s : Scan) (ss : List Scan) (slots : List ℕ)
      → times_in y (finals ts (s ∷ ss) slots) ≡ sum (λ k. times_in y (finals ts ss (standing ts s slots k))) (visited ts s slots)
  unfolding visits
  times-step y s ss slots =
      times-each y (slots_at ts (s ∷ ss) slots) (visited ts s slots) (λ k. map (λ w. k ∷ w) (visits ts ss (standing ts s slots k))) ∙
      ap (λ (g : ℕ → ℕ). sum g (visited ts s slots)) (fun_ext (λ k. ap (times_in y) (front s ss slots k (visits ts ss (standing ts s slots k)))))

module _ (ts : Tables) (passed : Passed ts.aevt ts.avet ts.eavt) where
  -- a fact stands in each table
  fact-among : (x : Index) (f : Fact) → is_fact ts f ≡ is_among (row_for x f) (rows_of (table_of ts x))
  fact-among Aevt f = refl
  fact-among Avet f = passed.in_avet f
  fact-among Eavt f = passed.in_eavt f

  -- at one row
  table-once : (x : Index) → Once (table_of ts x)
  table-once Aevt = passed.aevt_once
  table-once Avet = passed.avet_once
  table-once Eavt = passed.eavt_once

  module _ (n : ℕ) (s : Scan) (ss : List Scan) (ok : Steady n s ss) (last : Last s ss) (slots final : List ℕ) (size : length slots ≡ n) where
    abbrev t : List ℕ
    t = table_of ts s.index

    -- a scan visits row k
    abbrev Visits : ℕ → Type 0
    Visits k = begins (row t k) (take (1 + inputs s.flow) (row_for s.index (wanted s slots))) ≡ true

    module _ (k : ℕ) (low : k < count t) (visit : Visits k) (rest : Fitting ts ss (standing ts s slots k) final) where
      -- its slots state the fact of that row, and no later scan changes that
      row-stated : row_for s.index (wanted s final) ≡ row t k
      row-stated =
          let kept = in-order s.index (λ (z : ℕ). is_written ss z ≡ false) s.entity s.value last.first_last last.second_last in
          let e : wanted s final ≡ wanted s (standing ts s slots k) = same-wanted s final (standing ts s slots k) (rest.agree.same _ kept.0) (rest.agree.same _ kept.1) in
          ap (row_for s.index) (e ∙ stands-wanted ts s ss ok slots size k low visit) ∙ row_back s.index t k low

      fitting-back : Fitting ts (s ∷ ss) slots final
      unfolding scan_facts
      fitting-back = record {
        long = rest.long ∙ standing-length ts s ok k slots;
        agree = standing-back ts s ok k rest.agree;
        facts =
            rw (
              fact-among s.index (wanted s final),
              among-at (row_for s.index (wanted s final)) (row t) 0 (count t) k (omega arith) (omega arith) (equal-same _ _ row-stated),
            )
            rest.facts;
      }

    -- the other way round
    record Stands : Type 0 where
      at : ℕ
      low : at < count t
      visit : Visits at
      is : row_for s.index (wanted s final) ≡ row t at
      rest : Fitting ts ss (standing ts s slots at) final

    stands : Fitting ts (s ∷ ss) slots final → Stands
    unfolding scan_facts
    stands f =
        let b = both (is_fact ts (wanted s final)) (scan_facts ts ss final) f.facts in
        let w = among-where (row t) (row_for s.index (wanted s final)) 0 (count t) (sym (fact-among s.index (wanted s final)) ∙ b.0) in
        let k = w.at in
        let back : Agree (s ∷ ss) slots final = record { same = λ x h. sym (f.agree.same x h) } in
        let moved = standing-agree ts s ok k (f.long ∙ size) size f.agree in
        record {
          at = k;
          low = omega arith;
          visit = rw (key-agree ts s ok back, ← w.is) (begins-own (1 + inputs s.flow) (row_for s.index (wanted s final)));
          is = w.is;
          rest = record {
            long = f.long ∙ sym (standing-length ts s ok k slots);
            agree = rw (stands-still ts s final k w.is) at moved;
            facts = b.1;
          };
        }

  module _ (n : ℕ) where
    -- nothing else is reached
    pub finals-only : (ss : List Scan) → Stays n ss → (slots final : List ℕ) → length slots ≡ n → 1 ≤ times_in final (finals ts ss slots)
        → Fitting ts ss slots final
    unfolding visits slots_at times_in scan_facts visited matching
    finals-only [] ok slots final size h = go (same final slots) refl
      where
        go : (d : Dec (final ≡ slots)) → same final slots ≡ d → Fitting ts [] slots final
        go (yes e) q = record { long = ap length e; agree = record { same = λ x _. ap (λ (l : List ℕ). get_or l x 0) e }; facts = refl }
        go (no z) q = absurd (omega (arith, h, holds-no (same final slots) z))
    finals-only (s ∷ ss) ok slots final size h =
        go (λ k. finals-only ss (λ i l. ok (suc i) (suc-le-suc l)) (standing ts s slots k) final (standing-length ts s (ok 0 (omega arith)).0 k slots ∙ size))
      where
        go : ((k : ℕ) → 1 ≤ times_in final (finals ts ss (standing ts s slots k)) → Fitting ts ss (standing ts s slots k) final) → Fitting ts (s ∷ ss) slots final
        go r =
            let w = sum-some (λ k. times_in final (finals ts ss (standing ts s slots k))) _ 0 _ (rw (times-step ts final s ss slots) at h) in
            fitting-back n s ss (ok 0 (omega arith)).0 (ok 0 (omega arith)).1 slots final size w.0 (omega (arith, w.2)) w.3 (r w.0 w.4)

    -- and each is reached once
    pub finals-once : (ss : List Scan) → Stays n ss → (slots final : List ℕ) → length slots ≡ n → Fitting ts ss slots final
        → times_in final (finals ts ss slots) ≡ 1
    unfolding visits slots_at times_in visited matching is_written
    finals-once [] ok slots final size f =
        let e : final ≡ slots = ext_get_or 0 final slots f.long (λ i _. f.agree.same i refl) in
        omega (arith, holds-yes (same final slots) e)
    finals-once (s ∷ ss) ok slots final size f =
        go (λ k. finals-once ss (λ i l. ok (suc i) (suc-le-suc l)) (standing ts s slots k) final (standing-length ts s (ok 0 (omega arith)).0 k slots ∙ size))
      where
        steady : Steady n s ss
        steady = (ok 0 (omega arith)).0

        last : Last s ss
        last = (ok 0 (omega arith)).1

        g : ℕ → ℕ
        g k = times_in final (finals ts ss (standing ts s slots k))

        none : (j m : ℕ) → g j ≡ m → (1 ≤ g j → ⊥) → g j ≡ 0
        none j zero e h = e
        none j (suc m) e h = absurd (h (omega arith))

        go : ((k : ℕ) → Fitting ts ss (standing ts s slots k) final → g k ≡ 1) → times_in final (finals ts (s ∷ ss) slots) ≡ 1
        go r =
            let w = stands n s ss steady last slots final size f in
            times-step ts final s ss slots ∙
            sum_one g _ 0 _ w.at (omega arith) (omega (arith, w.low)) w.visit (r w.at w.rest)
            (λ j _ h p z.
            none j (g j) refl
            (λ c.
            let rest = finals-only ss (λ i l. ok (suc i) (suc-le-suc l)) (standing ts s slots j) final (standing-length ts s steady j slots ∙ size) c in
            let e = row-stated n s ss steady last slots final size j (omega (arith, h)) p rest in
            z (table-once s.index j w.at (omega (arith, h)) w.low (sym e ∙ w.is))))
