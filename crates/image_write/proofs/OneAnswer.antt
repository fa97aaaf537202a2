-- No second answer fits the promise of this crate.
use mathlib.Core.Path.{◌≡◌}
use mathlib.Core.List.{List}
use Prim.Native.Nat.{ℕ}
use lib.ListN.{length}
use Rattle.refusal.proofs.OneAnswer.{one_answer}
use Rattle.plan.specs.declared.Plan.{Plan}
use Rattle.image.specs.Image.{stored_of, image_after}
use Rattle.std.specs.Prelude.{Result}
use Rattle.refusal.specs.Verdict.{Refusal, answer}

-- `write_image`, the buffer included
pub write-image-one : (p : Plan) (buffer : List ℕ) (r r' : Result ℕ Refusal) (b b' : List ℕ) → r ≡ answer (stored_of p (length buffer)).verdict (stored_of p (length buffer)).length → r' ≡ answer (stored_of p (length buffer)).verdict (stored_of p (length buffer)).length
    → b ≡ image_after p buffer → b' ≡ image_after p buffer → (r ≡ r') × (b ≡ b')
write-image-one p buffer r r' b b' e f g h = (one_answer e f, one_answer g h)
