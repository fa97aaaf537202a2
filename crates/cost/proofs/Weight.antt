-- The weight of what is left of a plan's scans, one scan towards the front, and the room for it below 2 ^ 64.
use mathlib.Core.Path.{◌≡◌, refl, ◌∙◌}
use Prim.Native.Nat.{ℕ, ◌+◌, ◌-◌, ◌*◌, ◌/◌, ◌^◌, ◌≤◌, ◌<◌}
use mathlib.Core.List.{List, [], ◌∷◌, ◌++◌, append-nil}
use native.Mathlib.Nat.{add-zero, zero-add}
use lib.Seq.{append_snoc}
use native.Mathlib.Nat.{mul_comm, le-div_iff_mul-le, div-lt_iff_lt-mul}
use native.Mathlib.Omega.{arith}
use borrow.Author.Tests.{lt-leb, le-leb}
use lib.Dec.{leb}
use lib.ListN.{length, length-append}
use Rattle.refusal.specs.Verdict.{Refusal, refused, refuse_if}
use Rattle.std.specs.Prelude.{Ok, Err, Bool, true, false}
use Rattle.plan.specs.declared.Scan.{Scan}
use Rattle.plan.specs.declared.Index.{Index}
use Rattle.plan.specs.declared.Index.TheVariants.{Aevt, Avet, Eavt}
use Rattle.plan.specs.declared.Flow.{Flow}
use Rattle.plan.specs.declared.Flow.TheVariants.{OutOut, InOut, InIn}
use Rattle.cost.specs.Cost.{key_used, index_used, penalty_for, penalty_of, iters_of, weight, weight_fault}

-- what a quotient says of a sum with a product
pub room_fits : (m p t c : ℕ) → 0 < t → p ≤ m → c ≤ (m - p) / t → p + t * c ≤ m
room_fits m p t c ht hp h = omega (arith, mul_comm t c, (le-div_iff_mul-le ht).0 h)

pub room-over : (m p t c : ℕ) → 0 < t → p ≤ m → (m - p) / t < c → m < p + t * c
room-over m p t c ht hp h = omega (arith, mul_comm t c, (div-lt_iff_lt-mul ht).0 h)

pub iters-some : (f : Flow) (x : Index) → 0 < iters_of f x
iters-some OutOut x = omega arith
iters-some InIn x = omega arith
iters-some InOut Aevt = omega arith
iters-some InOut Avet = omega arith
iters-some InOut Eavt = omega arith

pub penalty-few : (x : Index) (key used : Bool) → penalty_for x key used ≤ 100
penalty-few Eavt true b = omega arith
penalty-few Eavt false true = omega arith
penalty-few Eavt false false = omega arith
penalty-few Aevt true b = omega arith
penalty-few Aevt false true = omega arith
penalty-few Aevt false false = omega arith
penalty-few Avet true b = omega arith
penalty-few Avet false true = omega arith
penalty-few Avet false false = omega arith

-- what has passed is refused from every scan before it too
pub fault-front : (before scans after : List Scan) (r : Refusal) → weight_fault (before ++ scans) after (length before + length scans) ≡ Err r
    → weight_fault before (scans ++ after) (length before) ≡ Err r
unfolding weight_fault
fault-front before [] after r e = rw (append-nil before, add-zero (length before)) at e
fault-front before (s ∷ ss) after r e =
    let more : length (before ++ (s ∷ [])) ≡ length before + 1 = rw length-append refl in
    let on : length (before ++ (s ∷ [])) + length ss ≡ length before + length (s ∷ ss) = omega (arith, more) in
    let rest = fault-front (before ++ (s ∷ [])) ss after r (rw (append_snoc before s ss, on) e) in
    simp (rw more at rest)

-- what a scan makes of the cost of those after it
abbrev pub more : List Scan → Scan → ℕ → ℕ
more earlier s cost = penalty_of earlier s + iters_of s.flow s.index * cost

-- one scan towards the front: the scans are those before it, itself, and those gone through, whose weight is the cost and which are fine
module _ (scans left earlier after : List Scan) (s : Scan) (cost : ℕ) (whole : scans ≡ left ++ after) (last : left ≡ earlier ++ (s ∷ []))
    (weighs : weight left after ≡ cost) (fits : weight_fault left after (length left) ≡ Ok tt) where
  pub whole-on : scans ≡ earlier ++ (s ∷ after)
  whole-on = whole ∙ rw last (append_snoc earlier s after)

  pub weight-on : weight earlier (s ∷ after) ≡ more earlier s cost
  unfolding weight
  weight-on = rw (← last, weighs) refl

  fault-here : weight_fault earlier (s ∷ after) (length earlier) ≡ refuse_if (leb (2 ^ 64) (more earlier s cost)) 27 (length earlier)
  unfolding weight_fault
  fault-here =
      let on : length earlier + 1 ≡ length left = rw (last, length-append) refl in
      rw (on, ← last, fits, weight-on) refl

  some : 0 < iters_of s.flow s.index
  some = iters-some s.flow s.index

  few : penalty_of earlier s ≤ 2 ^ 64 - 1
  few = omega (arith, penalty-few s.index (key_used s earlier) (index_used s.index earlier))

  pub fault-on : cost ≤ (2 ^ 64 - 1 - penalty_of earlier s) / iters_of s.flow s.index → weight_fault earlier (s ∷ after) (length earlier) ≡ Ok tt
  fault-on room =
      let h : more earlier s cost < 2 ^ 64 = omega (arith, room_fits (2 ^ 64 - 1) (penalty_of earlier s) (iters_of s.flow s.index) cost some few room) in
      fault-here ∙ rw (lt-leb _ _ h) refl

  pub over : (2 ^ 64 - 1 - penalty_of earlier s) / iters_of s.flow s.index < cost → weight_fault [] scans 0 ≡ refused 27 (length earlier)
  over room =
      let h : 2 ^ 64 ≤ more earlier s cost = omega (arith, room-over (2 ^ 64 - 1) (penalty_of earlier s) (iters_of s.flow s.index) cost some few room) in
      rw whole-on (fault-front [] earlier (s ∷ after) _ (rw (zero-add (length earlier)) (fault-here ∙ rw (le-leb _ _ h) refl)))
