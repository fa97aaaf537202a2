-- Index words put over those of a plan: what stands at each place then, and that the words say the plan with these indexes.
use mathlib.Core.Path.{◌≡◌, refl, ◌∙◌}
use Prim.Native.Nat.{ℕ, zero, suc, ◌+◌, ◌<◌, ◌≤◌}
use mathlib.Core.List.{List, [], ◌∷◌}
use native.Mathlib.Omega.{arith}
use native.Mathlib.Nat.{not-suc-le-zero, le_of_suc-le-suc}
use lib.ListN.{length, get_or, drop, set, length-set, drop_of_length-le}
use lib.Seq.{get_or-set_same, get_or-set_other, drop-cons}
use Rattle.plan.specs.declared.Scan.{Scan}
use Rattle.plan.specs.Codes.{index_code}
use Rattle.plan.specs.Plan.{zero_scan}
use Rattle.loader_words.specs.Words.{word}
use Rattle.loader_plan_words.specs.Write.{index_at, with_indexes}

pub indexes-length : (ss : List Scan) (i : ℕ) (ws : List ℕ) → length (with_indexes ss i ws) ≡ length ws
unfolding with_indexes
indexes-length [] i ws = refl
indexes-length (s ∷ ss) i ws = indexes-length ss (i + 1) _ ∙ length-set ws (index_at i) (index_code s.index)

-- a word that is no such index word
pub indexes-other : (ss : List Scan) (i : ℕ) (ws : List ℕ) (j : ℕ) → ((n : ℕ) → n < length ss → j ≡ index_at (i + n) → ⊥)
    → word (with_indexes ss i ws) j ≡ word ws j
unfolding with_indexes
indexes-other [] i ws j h = refl
indexes-other (s ∷ ss) i ws j h =
    indexes-other ss (i + 1) (set ws (index_at i) (index_code s.index)) j (λ n m e. h (suc n) (omega arith) (omega arith)) ∙
    get_or-set_other ws (index_at i) j (index_code s.index) 0 (λ e. h 0 (omega arith) (omega arith))

-- the index word of a scan
pub indexes-at : (ss : List Scan) (i : ℕ) (ws : List ℕ) (n : ℕ) → n < length ss → index_at (i + length ss) ≤ length ws
    → word (with_indexes ss i ws) (index_at (i + n)) ≡ index_code (get_or ss n zero_scan).index
unfolding with_indexes
indexes-at [] i ws n h room = absurd (not-suc-le-zero h)
indexes-at (s ∷ ss) i ws zero h room =
    let e : i + 0 ≡ i = omega arith in
    rw e (indexes-other ss (i + 1) (set ws (index_at i) (index_code s.index)) (index_at i) (λ n m e. omega arith) ∙
    get_or-set_same ws (index_at i) (index_code s.index) 0 (omega arith))
indexes-at (s ∷ ss) i ws (suc n) h room =
    let e : i + suc n ≡ i + 1 + n = omega arith in
    let r : index_at (i + 1 + length ss) ≤ length (set ws (index_at i) (index_code s.index)) = rw length-set (omega arith) in
    rw e (indexes-at ss (i + 1) (set ws (index_at i) (index_code s.index)) n (le_of_suc-le-suc h) r)

-- a loop over scans, one more, and after the last
module _ (ss : List Scan) (i : ℕ) (ws : List ℕ) where
  pub indexes-more : i < length ss
      → with_indexes (drop i ss) i ws ≡ with_indexes (drop (i + 1) ss) (i + 1) (set ws (index_at i) (index_code (get_or ss i zero_scan).index))
  unfolding with_indexes
  indexes-more h =
      let one : suc i ≡ i + 1 = omega arith in
      rw (drop-cons ss i zero_scan h, one) refl

  pub indexes-done : length ss ≤ i → with_indexes (drop i ss) i ws ≡ ws
  unfolding with_indexes
  indexes-done h = rw (drop_of_length-le ss h) refl
