-- 01, "How a query becomes a plan": the cycles, and `next`.
use Rattle.std.specs.Prelude.{ℕ, List, [], ◌∷◌, ◌++◌, Bool, true, false, cond, take, drop}
use Rattle.std.specs.Prelude.{Ok}
use Rattle.refusal.specs.Verdict.{unless}
use Rattle.plan.specs.declared.Scan.{Scan}
use Rattle.plan.specs.declared.Plan.{Plan}
use Rattle.plan.specs.declared.Index.{Index}
use Rattle.plan.specs.declared.Index.TheVariants.{Aevt, Avet, Eavt}
use Rattle.plan.specs.declared.Flow.{Flow}
use Rattle.plan.specs.declared.Flow.TheVariants.{OutOut, InOut, InIn}
use Rattle.plan.specs.Plan.{same_index, scans_of, scan_flows_fault, flows_fault}
use Rattle.listing.specs.Answered.{NextPlan}
use Rattle.listing.specs.Answered.{NextScans}

-- cycles: out-out aevt, avet; in-in aevt, avet, eavt; in-out aevt, eavt; in-out avet alone. The one that an index is of, from its first on;
-- out-out over eavt is refused, and of none
abbrev pub cycle : Flow → Index → List Index
cycle OutOut Aevt = Aevt ∷ Avet ∷ []
cycle OutOut Avet = Aevt ∷ Avet ∷ []
cycle OutOut Eavt = []
cycle InIn x = Aevt ∷ Avet ∷ Eavt ∷ []
cycle InOut Aevt = Aevt ∷ Eavt ∷ []
cycle InOut Eavt = Aevt ∷ Eavt ∷ []
cycle InOut Avet = Avet ∷ []

-- the indexes that come after one in a list
abbrev pub after : Index → List Index → List Index
after x [] = []
after x (y ∷ ys) = cond (same_index x y) ys (after x ys)

-- the first of a list; where it has none, x
abbrev pub first_or : Index → List Index → Index
first_or x [] = x
first_or x (y ∷ ys) = y

abbrev pub has_some : List Index → Bool
has_some [] = false
has_some (y ∷ ys) = true

-- the next index of the cycle: the one after it, and after the last the first again
abbrev pub next_index : Flow → Index → Index
next_index f x = first_or x (after x (cycle f x) ++ cycle f x)

-- it is new where it is not the first again
abbrev pub is_new_index : Flow → Index → Bool
is_new_index f x = has_some (after x (cycle f x))

abbrev pub next_scan : Scan → Scan
next_scan s = record { index = next_index s.flow s.index; flow = s.flow; entity = s.entity; attribute = s.attribute; value = s.value }

-- `next` steps scan 0; one that wraps carries to scan 1, and so on
unfoldable pub next_scans : List Scan → List Scan
next_scans [] = []
next_scans (s ∷ ss) = next_scan s ∷ cond (is_new_index s.flow s.index) ss (next_scans ss)

-- when all wrap it says no
unfoldable pub is_new_scans : List Scan → Bool
is_new_scans [] = false
is_new_scans (s ∷ ss) = cond (is_new_index s.flow s.index) true (is_new_scans ss)

-- an array of scans of which the first k count, stepped; the places past them stay as they are
abbrev pub stepped : List Scan → ℕ → NextScans
stepped scans k = record { verdict = Ok tt; is_new = is_new_scans (take k scans); scans = next_scans (take k scans) ++ drop k scans }

-- what `next` answers of scans without a plan; where it refuses (20, then 21 at the lowest such scan), no, and the scans as they were given
unfoldable pub next_of_scans : List Scan → ℕ → NextScans
next_of_scans scans k = unless (scan_flows_fault scans k) (λ v. record { verdict = v; is_new = false; scans = scans }) (stepped scans k)

-- a plan with other scans below its count; the places past it stay as they are
abbrev pub with_scans : Plan → List Scan → Plan
with_scans p ss = record {
  scans = ss ++ drop p.scan_count p.scans;
  scan_count = p.scan_count;
  slots = p.slots;
  slot_count = p.slot_count;
  select = p.select;
  select_count = p.select_count;
}

-- what `next` answers; where it refuses (20, then 21 at the lowest such scan), no, and the plan as it was given
unfoldable pub next_plan_of : Plan → NextPlan
next_plan_of p =
    unless (flows_fault p) (λ v. record { verdict = v; is_new = false; plan = p })
    (record { verdict = Ok tt; is_new = is_new_scans (scans_of p); plan = with_scans p (next_scans (scans_of p)) })
