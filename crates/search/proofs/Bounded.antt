-- No candidate's cost passes 2^64 - 1: each scan multiplies the cost by 200 at the most.
use mathlib.Core.Path.{◌≡◌, refl}
use Prim.Native.Nat.{ℕ, zero, ◌+◌, ◌^◌, ◌≤◌, ◌<◌}
use native.Mathlib.Nat.{mul-le-mul_right, pow-succ', pow-le-pow_right}
use native.Mathlib.Omega.{arith}
use mathlib.Core.List.{List, [], ◌∷◌, ◌++◌}
use mathlib.Core.Bool.{Bool, true, false}
use borrow.Author.Tests.{lt-leb}
use lib.ListN.{length, take}
use Rattle.capacity.specs.Capacity.{max_searched}
use Rattle.std.specs.Prelude.{Ok}
use Rattle.plan.specs.declared.Scan.{Scan}
use Rattle.plan.specs.declared.Index.{Index}
use Rattle.plan.specs.declared.Index.TheVariants.{Aevt, Avet, Eavt}
use Rattle.plan.specs.declared.Flow.{Flow}
use Rattle.plan.specs.declared.Flow.TheVariants.{OutOut, InOut, InIn}
use Rattle.plan.specs.Plan.{scan_flows_fault}
use Rattle.cost.specs.Cost.{penalty_for, index_used, key_used, iters_of, weight, weight_fault, cost_of_scans}

penalty-most : (x : Index) (k i : Bool) → penalty_for x k i ≤ 100
penalty-most Aevt true i = omega arith
penalty-most Aevt false true = omega arith
penalty-most Aevt false false = omega arith
penalty-most Avet true i = omega arith
penalty-most Avet false true = omega arith
penalty-most Avet false false = omega arith
penalty-most Eavt true i = omega arith
penalty-most Eavt false true = omega arith
penalty-most Eavt false false = omega arith

iters-most : (f : Flow) (x : Index) → iters_of f x ≤ 100
iters-most OutOut x = omega arith
iters-most InIn x = omega arith
iters-most InOut Aevt = omega arith
iters-most InOut Avet = omega arith
iters-most InOut Eavt = omega arith

iters-least : (f : Flow) (x : Index) → 1 ≤ iters_of f x
iters-least OutOut x = omega arith
iters-least InIn x = omega arith
iters-least InOut Aevt = omega arith
iters-least InOut Avet = omega arith
iters-least InOut Eavt = omega arith

weight-least : (before ss : List Scan) → 1 ≤ weight before ss
unfolding weight
weight-least before [] = omega arith
weight-least before (s ∷ ss) =
    let w = weight (before ++ (s ∷ [])) ss in
    omega (arith, weight-least (before ++ (s ∷ [])) ss, mul-le-mul_right w (iters-least s.flow s.index))

pub weight-most : (before ss : List Scan) → weight before ss ≤ 200 ^ length ss
unfolding weight
weight-most before [] = omega arith
weight-most before (s ∷ ss) =
    let b = before ++ (s ∷ []) in
    let w = weight b ss in
    let p = penalty-most s.index (key_used s before) (index_used s.index before) in
    let t = mul-le-mul_right w (iters-most s.flow s.index) in
    rw (pow-succ' 200 (length ss)) (omega (arith, p, t, weight-least b ss, weight-most b ss))

-- of as many scans as are searched
weight-below : (before ss : List Scan) → length ss ≤ max_searched → weight before ss < 2 ^ 64
weight-below before ss h =
    let some : zero < 200 = omega arith in
    let m : 200 ^ length ss ≤ 200 ^ max_searched = pow-le-pow_right some h in
    omega (arith, m, weight-most before ss)

pub weight-fits : (ss : List Scan) → length ss ≤ max_searched → weight [] ss < 2 ^ 64
weight-fits = weight-below []

-- so none of them is refused 27
pub fault-fine : (before ss : List Scan) (i : ℕ) → length ss ≤ max_searched → weight_fault before ss i ≡ Ok tt
unfolding weight_fault
fault-fine before [] i h = refl
fault-fine before (s ∷ ss) i h = simp (fault-fine (before ++ (s ∷ [])) ss (i + 1) (omega arith), lt-leb (2 ^ 64) _ (weight-below before (s ∷ ss) h))

pub cost-fits : (scans : List Scan) (k : ℕ) → scan_flows_fault scans k ≡ Ok tt → length (take k scans) ≤ max_searched
    → (cost_of_scans scans k).cost ≡ weight [] (take k scans)
unfolding cost_of_scans
cost-fits scans k e h = rw (e, fault-fine [] (take k scans) 0 h)

pub cost-fine : (scans : List Scan) (k : ℕ) → scan_flows_fault scans k ≡ Ok tt → length (take k scans) ≤ max_searched
    → (cost_of_scans scans k).verdict ≡ Ok tt
unfolding cost_of_scans
cost-fine scans k e h = rw (e, fault-fine [] (take k scans) 0 h)
