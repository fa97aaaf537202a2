-- 01, "Cost": a penalty and a number of steps for each scan; from the last scan to the first, cost = penalty + steps × cost.
use Rattle.std.specs.Prelude.{ℕ, ◌+◌, ◌*◌, ◌^◌, List, [], ◌∷◌, ◌++◌, Bool, true, false, ◌&&◌, ◌||◌, take, leb, eqb}
use Rattle.refusal.specs.Verdict.{Verdict}
use Rattle.std.specs.Prelude.{Ok}
use Rattle.refusal.specs.Verdict.{refuse_if, or_else, unless}
use Rattle.plan.specs.declared.Scan.{Scan}
use Rattle.plan.specs.declared.Plan.{Plan}
use Rattle.plan.specs.declared.Index.{Index}
use Rattle.plan.specs.declared.Index.TheVariants.{Aevt, Avet, Eavt}
use Rattle.plan.specs.declared.Flow.{Flow}
use Rattle.plan.specs.declared.Flow.TheVariants.{OutOut, InOut, InIn}
use Rattle.plan.specs.Plan.{same_index, scans_of, scan_flows_fault, flows_fault}
use Rattle.cost.specs.Answered.{Costed}

-- eavt goes by the entity slot, aevt and avet by the attribute
abbrev pub same_by : Index → Scan → Scan → Bool
same_by Aevt s b = eqb s.attribute.0 b.attribute.0
same_by Avet s b = eqb s.attribute.0 b.attribute.0
same_by Eavt s b = eqb s.entity.0 b.entity.0

-- an earlier scan is over the same index; one is, and with the same key
unfoldable pub index_used : Index → List Scan → Bool
index_used x [] = false
index_used x (b ∷ bs) = same_index x b.index || index_used x bs

abbrev pub same_key : Scan → Scan → Bool
same_key s b = same_index s.index b.index && same_by s.index s b

unfoldable pub key_used : Scan → List Scan → Bool
key_used s [] = false
key_used s (b ∷ bs) = same_key s b || key_used s bs

-- penalty: the key was used, else the index was, else neither
abbrev pub penalty_for : Index → Bool → Bool → ℕ
penalty_for Eavt true x = 1
penalty_for Eavt false true = 90
penalty_for Eavt false false = 100
penalty_for Aevt true x = 5
penalty_for Aevt false true = 10
penalty_for Aevt false false = 20
penalty_for Avet true x = 10
penalty_for Avet false true = 50
penalty_for Avet false false = 60

-- the penalty of a scan after the scans before it
abbrev pub penalty_of : List Scan → Scan → ℕ
penalty_of before s = penalty_for s.index (key_used s before) (index_used s.index before)

-- steps: out-out 100, in-in 1, in-out 1, but in-out avet 20
abbrev pub iters_of : Flow → Index → ℕ
iters_of OutOut x = 100
iters_of InIn x = 1
iters_of InOut Aevt = 1
iters_of InOut Avet = 20
iters_of InOut Eavt = 1

-- the cost of scans after the scans before them: 1 for none
unfoldable pub weight : List Scan → List Scan → ℕ
weight before [] = 1
weight before (s ∷ ss) = penalty_of before s + iters_of s.flow s.index * weight (before ++ (s ∷ [])) ss

-- 27: cost over 2^64 - 1, at the scan at which, working from the last, it first passes
unfoldable pub weight_fault : List Scan → List Scan → ℕ → Verdict
weight_fault before [] i = Ok tt
weight_fault before (s ∷ ss) i = or_else (weight_fault (before ++ (s ∷ [])) ss (i + 1)) (refuse_if (leb (2 ^ 64) (weight before (s ∷ ss))) 27 i)

-- a verdict and a number: 0 where it is refused
abbrev pub costed : Verdict → ℕ → Costed
costed v n = unless v (λ r. record { verdict = r; cost = 0 }) (record { verdict = Ok tt; cost = n })

-- the cost of an array of scans of which the first k count: 20, then 21 at the lowest such scan, then 27
unfoldable pub cost_of_scans : List Scan → ℕ → Costed
cost_of_scans scans k = costed (or_else (scan_flows_fault scans k) (weight_fault [] (take k scans) 0)) (weight [] (take k scans))

-- the cost of a plan: 20, then 21 at the lowest such scan, then 27
unfoldable pub cost_of : Plan → Costed
cost_of p = costed (or_else (flows_fault p) (weight_fault [] (scans_of p) 0)) (weight [] (scans_of p))
