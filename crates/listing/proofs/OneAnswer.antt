-- No second answer fits the promises of `next_scans` and `next`, and none leaves other scans, or another plan.
use mathlib.Core.Path.{◌≡◌}
use mathlib.Core.Bool.{Bool}
use Prim.Native.Nat.{ℕ}
use mathlib.Core.List.{List}
use Rattle.std.specs.Prelude.{Result}
use Rattle.refusal.specs.Verdict.{Refusal, answer}
use Rattle.refusal.proofs.OneAnswer.{one_answer}
use Rattle.plan.specs.declared.Scan.{Scan}
use Rattle.plan.specs.declared.Plan.{Plan}
use Rattle.listing.specs.Next.{next_of_scans, next_plan_of}

-- the answers of the two calls
abbrev said-of-scans : List Scan → ℕ → Result Bool Refusal
said-of-scans l k = let next = next_of_scans l k in answer next.verdict next.is_new

abbrev said : Plan → Result Bool Refusal
said p = let next = next_plan_of p in answer next.verdict next.is_new

-- of the lent scans l, of which the first k count: what `next_scans` answers, and the scans that it leaves
pub next-scans-one : (l : List Scan) (k : ℕ) (r r' : Result Bool Refusal) (s s' : List Scan) → (r ≡ said-of-scans l k) × (s ≡ (next_of_scans l k).scans)
    → (r' ≡ said-of-scans l k) × (s' ≡ (next_of_scans l k).scans) → (r ≡ r') × (s ≡ s')
next-scans-one l k r r' s s' f g = (one_answer f.0 g.0, one_answer f.1 g.1)

-- of the lent plan p: what `next` answers, and the plan that it leaves
pub next_one : (p : Plan) (r r' : Result Bool Refusal) (q q' : Plan) → (r ≡ said p) × (q ≡ (next_plan_of p).plan)
    → (r' ≡ said p) × (q' ≡ (next_plan_of p).plan) → (r ≡ r') × (q ≡ q')
next_one p r r' q q' f g = (one_answer f.0 g.0, one_answer f.1 g.1)
