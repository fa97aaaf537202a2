-- No second answer fits the promises of this crate.
use mathlib.Core.Path.{◌≡◌}
use mathlib.Core.List.{List}
use Prim.Native.Nat.{ℕ}
use Rattle.refusal.proofs.OneAnswer.{one_answer}
use Rattle.text_pieces.specs.declared.Pen.{Pen}
use Rattle.text_pieces.specs.Written.{Written}
use Rattle.text_pieces.specs.Wrote.{Wrote}

-- every function that writes a piece to a buffer from a position on: the position and the buffer after it
pub written_one : {piece l l₁ l₂ : List ℕ} {at at₁ at₂ : ℕ} → Written piece at l at₁ l₁ → Written piece at l at₂ l₂ → (at₁ ≡ at₂) × (l₁ ≡ l₂)
written_one v w = (one_answer v.position_is w.position_is, one_answer v.buffer_is w.buffer_is)

-- `write`, `write_decimal` and `write_escaped`, and every function that writes a piece with a pen: where the pen stands then, and the buffer, which is the same one
pub wrote_one : {piece : List ℕ} {a b c : Pen} → Wrote piece a b → Wrote piece a c → (b.at ≡ c.at) × (b.out.now ≡ c.out.now) × (b.out.ghost_name ≡ c.out.ghost_name)
wrote_one v w = let e = written_one v.written w.written in (e.0, e.1, one_answer v.same_reference w.same_reference)
