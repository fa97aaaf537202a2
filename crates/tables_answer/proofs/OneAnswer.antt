-- No second answer fits the promise of this crate.
use mathlib.Core.Path.{◌≡◌}
use mathlib.Core.List.{List}
use Prim.Native.Nat.{ℕ}
use Rattle.refusal.proofs.OneAnswer.{one_answer}
use Rattle.text_pieces.specs.Written.{Written}
use Rattle.tables_answer.specs.Answer.{heap_answer_to}

-- `answer`, the buffer included
pub answer-one : (text : List ℕ) {out out₁ out₂ : List ℕ} {m n : ℕ} → Written (heap_answer_to text) 0 out m out₁ → Written (heap_answer_to text) 0 out n out₂ → (m ≡ n) × (out₁ ≡ out₂)
answer-one text v w = (one_answer v.position_is w.position_is, one_answer v.buffer_is w.buffer_is)
