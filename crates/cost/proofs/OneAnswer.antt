-- No second answer fits the promises of `cost` and `cost_of_scans`.
use mathlib.Core.Path.{◌≡◌}
use Prim.Native.Nat.{ℕ}
use mathlib.Core.List.{List}
use Rattle.std.specs.Prelude.{Result}
use Rattle.refusal.specs.Verdict.{Refusal, answer}
use Rattle.refusal.proofs.OneAnswer.{one_answer}
use Rattle.plan.specs.declared.Scan.{Scan}
use Rattle.plan.specs.declared.Plan.{Plan}
use Rattle.cost.specs.Answered.{Costed}
use Rattle.cost.specs.Cost.{cost_of_scans, cost_of}

-- the answer of a call
abbrev said : Costed → Result ℕ Refusal
said c = answer c.verdict c.cost

pub cost-one : (p : Plan) (r r' : Result ℕ Refusal) → r ≡ said (cost_of p) → r' ≡ said (cost_of p) → r ≡ r'
cost-one p r r' = one_answer

pub cost-of-scans-one : (l : List Scan) (k : ℕ) (r r' : Result ℕ Refusal) → r ≡ said (cost_of_scans l k) → r' ≡ said (cost_of_scans l k) → r ≡ r'
cost-of-scans-one l k r r' = one_answer
