-- No second answer fits the promises of this crate.
use mathlib.Core.Path.{◌≡◌}
use mathlib.Core.List.{List}
use lib.ListN.{length}
use Rattle.refusal.proofs.OneAnswer.{one_answer}
use Rattle.plan.specs.declared.Plan.{Plan}
use Prim.Native.Nat.{ℕ}
use Rattle.plan_text.specs.Answer.{formatted_of, text_after}
use Rattle.std.specs.Prelude.{Result}
use Rattle.refusal.specs.Verdict.{Refusal, answer}

-- `fmt`, the buffer included
pub fmt-one : (p : Plan) (names ends buffer : List ℕ) (r r' : Result ℕ Refusal) (b b' : List ℕ) → r ≡ answer (formatted_of p names ends (length buffer)).verdict (formatted_of p names ends (length buffer)).length
    → r' ≡ answer (formatted_of p names ends (length buffer)).verdict (formatted_of p names ends (length buffer)).length → b ≡ text_after p names ends buffer → b' ≡ text_after p names ends buffer → (r ≡ r') × (b ≡ b')
fmt-one p names ends buffer r r' b b' e f g h = (one_answer e f, one_answer g h)

-- `measure`
pub measure-one : (p : Plan) (names ends : List ℕ) (room : ℕ) {r r' : Result ℕ Refusal} → r ≡ answer (formatted_of p names ends room).verdict (formatted_of p names ends room).length → r' ≡ answer (formatted_of p names ends room).verdict (formatted_of p names ends room).length → r ≡ r'
measure-one p names ends room e f = one_answer e f
