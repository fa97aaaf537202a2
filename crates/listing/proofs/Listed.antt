-- The steps of `next` run through the combinations of the scans' cycles, each once, and back: an odometer, each wheel a scan's cycle.
use mathlib.Core.Path.{◌≡◌, refl, sym, ◌∙◌}
use Prim.Native.Nat.{suc, ◌*◌}
use mathlib.Core.List.{List, [], ◌∷◌, ◌++◌, map}
use mathlib.Core.Bool.{Bool, true, false, false≢true}
use native.Mathlib.Omega.{arith}
use native.Mathlib.Nat.{mul-zero, mul-suc}
use lib.ListN.{length, drop, length-append, length-map}
use Rattle.datom.specs.declared.Aid.{Aid}
use Rattle.plan.specs.declared.Slot.{Slot}
use Rattle.plan.specs.declared.Scan.{Scan}
use Rattle.plan.specs.declared.Index.{Index}
use Rattle.plan.specs.declared.Index.TheVariants.{Aevt, Avet, Eavt}
use Rattle.plan.specs.declared.Flow.{Flow}
use Rattle.plan.specs.declared.Flow.TheVariants.{OutOut, InOut, InIn}
use Rattle.listing.specs.Next.{is_new_index, next_scan, next_scans, is_new_scans}
use Rattle.listing.specs.Listing.{cycle_of, each_before, combinations, is_initial, Initial, Listed, listings}
use Rattle.listing.proofs.Circle.{Run, Circle, circle-first, circle-steps, circle-ends, circle-once}

abbrev is_new_scan : Scan → Bool
is_new_scan s = is_new_index s.flow s.index

-- one wheel: a scan's cycle
wheel : (f : Flow) (x : Index) (e : Slot) (a : Aid) (v : Slot) →
    let s : Scan = record { index = x; flow = f; entity = e; attribute = a; value = v } in is_initial s ≡ true → Circle next_scan is_new_scan s (cycle_of s)
unfolding is_initial
wheel OutOut Aevt e a v i = record { begins = refl; runs = (refl, refl, (refl, refl)) }
wheel InIn Aevt e a v i = record { begins = refl; runs = (refl, refl, (refl, refl, (refl, refl))) }
wheel InOut Aevt e a v i = record { begins = refl; runs = (refl, refl, (refl, refl)) }
wheel InOut Avet e a v i = record { begins = refl; runs = (refl, refl) }
wheel OutOut Avet e a v i = absurd (false≢true i)
wheel OutOut Eavt e a v i = absurd (false≢true i)
wheel InIn Avet e a v i = absurd (false≢true i)
wheel InIn Eavt e a v i = absurd (false≢true i)
wheel InOut Eavt e a v i = absurd (false≢true i)

-- a wheel before the others
module _ (s : Scan) (cs : List Scan) (w : List Scan) where
  -- within a turn of it the others stay
  turn : (l : List Scan) (rest : List (List Scan))
      → ((x : Scan) → is_new_scan x ≡ false → next_scan x ≡ s → Run next_scans is_new_scans (s ∷ w) (x ∷ l) rest)
      → (x : Scan) (xs : List Scan) → Run next_scan is_new_scan s x xs → Run next_scans is_new_scans (s ∷ w) (x ∷ l) (map (λ y. y ∷ l) xs ++ rest)
  unfolding next_scans is_new_scans
  turn l rest next x [] r = next x r.0 r.1
  turn l rest next x (y ∷ ys) r = (simp r.0, simp (r.0, r.1), turn l rest next y ys r.2)

  -- at the end of each turn the others step
  turns : Run next_scan is_new_scan s s cs → (l : List Scan) (ls : List (List Scan)) → Run next_scans is_new_scans w l ls
      → Run next_scans is_new_scans (s ∷ w) (s ∷ l) (map (λ y. y ∷ l) cs ++ each_before (s ∷ cs) ls)
  unfolding next_scans is_new_scans each_before
  turns c l [] r = turn l [] (λ x n e. (simp (n, r.0), simp (n, e, r.1))) s cs c
  turns c l (m ∷ ls) r = turn l (each_before (s ∷ cs) (m ∷ ls)) (λ x n e. (simp (n, r.0), simp (n, e, r.1), turns c m ls r.2)) s cs c

-- all wheels
pub wheels : (ss : List Scan) → Initial ss → Circle next_scans is_new_scans ss (combinations ss)
unfolding next_scans is_new_scans each_before combinations
wheels [] i = record { begins = refl; runs = (refl, refl) }
wheels (s ∷ ss) i =
    let c = wheel s.flow s.index s.entity s.attribute s.value (i 0 (omega arith) s) in
    let cs = wheels ss (λ j h d. i (suc j) (omega arith) d) in
    rw (c.begins, cs.begins) (record { begins = refl; runs = turns s (drop 1 (cycle_of s)) ss c.runs ss (drop 1 (combinations ss)) cs.runs })

-- the plans listed are the combinations, from the initial one on, each once
pub listed : (ss : List Scan) → Initial ss → Listed ss
listed ss i =
    let c = wheels ss i in
    record {
      first = circle-first next_scans is_new_scans ss (combinations ss) c [];
      steps = circle-steps next_scans is_new_scans ss (combinations ss) c [];
      ends = circle-ends next_scans is_new_scans ss (combinations ss) c [];
      once = circle-once next_scans is_new_scans ss (combinations ss) c [];
    }

-- as many as the product of the cycles' lengths
before-length : (xs : List Scan) (ls : List (List Scan)) → length (each_before xs ls) ≡ length xs * length ls
unfolding each_before
before-length xs [] = sym (mul-zero (length xs))
before-length xs (l ∷ ls) = simp (length-append, length-map, before-length xs ls, mul-suc) (omega arith)

pub listings-length : (ss : List Scan) → length (combinations ss) ≡ listings ss
unfolding combinations listings
listings-length [] = refl
listings-length (s ∷ ss) = before-length (cycle_of s) (combinations ss) ∙ rw (listings-length ss)
