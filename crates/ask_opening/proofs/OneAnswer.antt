-- No second answer fits the promise of this crate.
use mathlib.Core.Path.{◌≡◌}
use mathlib.Core.List.{List}
use Prim.Native.Nat.{ℕ}
use Rattle.refusal.proofs.OneAnswer.{one_answer}
use Rattle.text_pieces.proofs.OneAnswer.{written_one}
use Rattle.ask_opening.specs.declared.Opening.{Opening}
use Rattle.ask_opening.specs.Opening.{Said, Opens}

-- `open`, the buffer included
pub open-one : {s : Said} {l l₁ l₂ : List ℕ} {r₁ r₂ : Opening} → Opens s l r₁ l₁ → Opens s l r₂ l₂ → (r₁ ≡ r₂) × (l₁ ≡ l₂)
open-one {r₁ = r₁} {r₂ = r₂} v w =
    let same = written_one v.line.is_written w.line.is_written in
    let plan = one_answer v.plan_is w.plan_is in
    let answer : ◌≡◌ {A = Opening} (record { plan = r₁.plan; length = r₁.length }) r₂ = rw (plan, same.0) in
    (answer, same.1)
