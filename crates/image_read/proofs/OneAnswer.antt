-- No second answer fits the promise of `read_image`.
use mathlib.Core.Path.{◌≡◌}
use Prim.Native.Nat.{ℕ}
use mathlib.Core.List.{List}
use Rattle.refusal.proofs.OneAnswer.{one_answer}
use Rattle.image.specs.Read.{plan_read_of}
use Rattle.std.specs.Prelude.{Result}
use Rattle.refusal.specs.Verdict.{Refusal, answer}
use Rattle.plan.specs.declared.Plan.{Plan}

pub read-image-one : (bytes : List ℕ) (r r' : Result Plan Refusal) → r ≡ answer (plan_read_of bytes).verdict (plan_read_of bytes).plan → r' ≡ answer (plan_read_of bytes).verdict (plan_read_of bytes).plan → r ≡ r'
read-image-one bytes r r' = one_answer
