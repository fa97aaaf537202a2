-- No second answer fits the promises of this crate.
use mathlib.Core.Path.{◌≡◌}
use mathlib.Core.List.{List}
use Prim.Native.Nat.{ℕ}
use lib.ListN.{length}
use Rattle.refusal.specs.Verdict.{Refusal, Verdict}
use Rattle.refusal.proofs.OneAnswer.{one_answer}
use Rattle.plan.specs.declared.Plan.{Plan}
use Rattle.visits.specs.Visits.{Tables}
use Rattle.eval.specs.Evaluation.{said_rows, evaluation_fault, evaluate_of, buffer_after}
use Rattle.std.specs.Prelude.{Result}
use Rattle.eval.specs.declared.rows.Shown.{Shown}

-- `evaluate`
pub evaluate-one : (p : Plan) (ts : Tables) (k : ℕ) (buffer : List ℕ) (r r' : Result Shown Refusal) (b b' : List ℕ) → r ≡ said_rows (evaluate_of p ts k (length buffer))
    → r' ≡ said_rows (evaluate_of p ts k (length buffer)) → b ≡ buffer_after p ts k buffer → b' ≡ buffer_after p ts k buffer → (r ≡ r') × (b ≡ b')
evaluate-one p ts k buffer r r' b b' e f g h = (one_answer e f, one_answer g h)

-- `check`
pub check-one : (p : Plan) (ts : Tables) (r r' : Verdict) → r ≡ evaluation_fault p ts → r' ≡ evaluation_fault p ts → r ≡ r'
check-one p ts r r' = one_answer
