-- No second answer fits the promises of this crate.
use mathlib.Core.Path.{◌≡◌}
use mathlib.Core.List.{List}
use Prim.Native.Nat.{ℕ}
use Rattle.refusal.proofs.OneAnswer.{one_answer}
use Rattle.std.specs.Prelude.{Result}
use Rattle.refusal.specs.Verdict.{Refusal}
use Rattle.ask_answer.specs.declared.Following.{Following}
use Rattle.ask_answer.specs.declared.Part.{Part}
use Rattle.ask_answer.specs.Parts.{Reads, Begins, GoesOn}
use Rattle.ask_answer.specs.Run.{Run}
use Rattle.ask_answer.proofs.Theorem.{run-answers}

-- `read_question`, the buffer included
pub read-question-one : {text words words₁ words₂ : List ℕ} {m n : ℕ} → Reads text words m words₁ → Reads text words n words₂ → (m ≡ n) × (words₁ ≡ words₂)
read-question-one v w = (one_answer v.count_is w.count_is, one_answer v.words_are w.words_are)

-- `begin`, the buffer included
pub begin-one : {ws out out₁ out₂ : List ℕ} {r₁ r₂ : Part} → Begins ws out r₁ out₁ → Begins ws out r₂ out₂ → (r₁ ≡ r₂) × (out₁ ≡ out₂)
begin-one v w = (one_answer v.part_is w.part_is, one_answer v.out_is w.out_is)

-- `go_on`, the two buffers included
pub go-on-one : {ws rows out rows₁ rows₂ out₁ out₂ : List ℕ} {f : Following} {r₁ r₂ : Result Part Refusal} → GoesOn ws f rows out r₁ rows₁ out₁ → GoesOn ws f rows out r₂ rows₂ out₂
    → (r₁ ≡ r₂) × ((rows₁ ≡ rows₂) × (out₁ ≡ out₂))
go-on-one v w = (one_answer v.part_is w.part_is, (one_answer v.rows_are w.rows_are, one_answer v.out_is w.out_is))

-- a whole run
pub run-one : {text bytes₁ bytes₂ : List ℕ} → Run text bytes₁ → Run text bytes₂ → bytes₁ ≡ bytes₂
run-one v w = one_answer (run-answers v) (run-answers w)
