-- The state that evaluation starts from: scan 0's range is found, every other is empty, so what is to come is every visit.
use mathlib.Core.Path.{◌≡◌, refl, sym, ap, ◌∙◌}
use mathlib.Core.List.{List}
use Prim.Native.Nat.{ℕ, zero, suc, ◌+◌, ◌*◌, ◌-◌, ◌<◌, ◌≤◌}
use native.Mathlib.Omega.{arith}
use lib.ListN.{length, get_or, set, drop, replicate, length-set, length-replicate}
use lib.Seq.{get_or-set_same, get_or-set_other, take-length}
use Rattle.lists.specs.Span.{span}
use Rattle.tables.specs.Rows.{count}
use Rattle.plan.specs.declared.Scan.{Scan}
use Rattle.plan.specs.Plan.{zero_scan}
use Rattle.visits.specs.Visits.{Tables, table_of, visited, visits, slots_at}
use Rattle.visits.specs.Sound.{Agree}
use Rattle.visits.specs.Pending.{iter_words, position, ending, current, current_slots}
use Rattle.visits.proofs.Pending.{pending-started}
use Rattle.eval.specs.Steps.{Ascend, key_of, Found, Ready}
use Rattle.eval.specs.Next.{innermost, remaining}

-- a list of zeros holds 0 everywhere
zeros : (n j : ℕ) → get_or {A = ℕ} (replicate n 0) j 0 ≡ 0
zeros zero j = refl
zeros (suc n) zero = refl
zeros (suc n) (suc j) = zeros n j

pub begun-same : (l : List ℕ) (a b : ℕ) → length (set (set l 0 a) 1 b) ≡ length l
begun-same l a b = length-set (set l 0 a) 1 b ∙ length-set l 0 a

module _ (ts : Tables) (ss : List Scan) (initial slots cleared t : List ℕ) (n from to : ℕ) (q : slots ≡ initial) (z : cleared ≡ replicate n 0)
    (some : 0 < length ss) (long : iter_words * length ss ≤ n) (e : t ≡ table_of ts (get_or ss 0 zero_scan).index)
    (f : Found t (key_of (get_or ss 0 zero_scan) slots) from to) where
  abbrev begun : List ℕ
  begun = set (set cleared 0 from) 1 to

  cleared-long : length cleared ≡ n
  cleared-long = ap length z ∙ length-replicate n 0

  begun-other : (j : ℕ) → 1 < j → get_or begun j 0 ≡ 0
  begun-other j l =
      get_or-set_other (set cleared 0 from) 1 j to 0 (λ q. omega arith) ∙ get_or-set_other cleared 0 j from 0 (λ q. omega arith) ∙ ap (λ (l : List ℕ). get_or l j 0) z ∙ zeros n j

  begun-long : length begun ≡ n
  begun-long = begun-same cleared from to ∙ cleared-long

  position_is : position begun 0 ≡ from
  position_is =
      get_or-set_other (set cleared 0 from) 1 0 to 0 (λ q. omega arith) ∙ get_or-set_same cleared 0 from 0 (omega (arith, cleared-long))

  ending-is : ending begun 0 ≡ to
  ending-is = get_or-set_same (set cleared 0 from) 1 to 0 (simp length-set (omega (arith, cleared-long)))

  ends : (j : ℕ) → j ≤ innermost ss → ending begun j ≤ count (table_of ts (get_or ss j zero_scan).index)
  ends zero l = rw (ending-is, ← e) f.within
  ends (suc j) l = rw (begun-other (iter_words * suc j + 1) (omega arith)) (omega arith)

  live : (j : ℕ) → j ≤ innermost ss → position begun j < ending begun j → Agree (drop j ss) slots (current_slots ts ss initial begun j)
  unfolding slots_at current
  live zero l m = record { same = λ x _. ap (λ (l : List ℕ). get_or l x 0) q }
  live (suc j) l m = absurd (omega (arith, begun-other (iter_words * suc j + 1) (omega arith)))

  pub start-ready : Ready ts ss initial begun slots (innermost ss)
  start-ready = record { low = omega arith; iters_long = omega (arith, begun-long); slots_long = ap length q; ends = ends; live = live }

  pub start-all : Ascend ts → remaining ts ss initial begun ≡ visits ts ss initial
  unfolding visited
  start-all sorted =
      let last : suc (innermost ss) ≡ length ss = omega arith in
      let found : span (position begun 0) (ending begun 0 - position begun 0) ≡ visited ts (get_or ss 0 zero_scan) initial =
      rw (position_is, ending-is) (sym (rw (e, q) at (f.rows (rw e (sorted (get_or ss 0 zero_scan).index))))) in
      let all = pending-started ts ss initial begun found (λ j l m. rw (begun-other (iter_words * j + 1) (omega arith)) (omega arith)) (innermost ss) (omega arith) in
      (rw last at all) ∙ ap (λ (l : List Scan). visits ts l initial) (take-length ss)
