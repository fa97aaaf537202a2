-- No second answer fits the promise of this crate.
use mathlib.Core.Path.{◌≡◌, ap}
use mathlib.Core.List.{List}
use Prim.Native.Nat.{ℕ}
use Rattle.refusal.proofs.OneAnswer.{one_answer}
use Rattle.plan.specs.declared.Plan.{Plan}
use Rattle.visits.specs.Visits.{Tables}
use Rattle.std.specs.Prelude.{Result, Ok, Err}
use Rattle.refusal.specs.Verdict.{Refusal}
use Rattle.ask_rows.specs.declared.Window.{Window as Said}
use Rattle.ask_rows.specs.Answered.{Window}
use Rattle.ask_rows.specs.Windows.{ShowsWindow, said_window}

-- a window's record says which answer it is of
abbrev shown_as : Window → Result Said Refusal
shown_as w = Ok (record { length = w.length; last = w.last; from = w.from; left = w.left })

windows_same : (r₁ r₂ : Result Said Refusal) → said_window r₁ ≡ said_window r₂ → r₁ ≡ r₂
windows_same (Ok w) (Ok u) e = ap shown_as e
windows_same (Ok w) (Err s) e = let v = ap (λ (x : Window). x.verdict) e in cc
windows_same (Err r) (Ok u) e = let v = ap (λ (x : Window). x.verdict) e in cc
windows_same (Err r) (Err s) e = let v = ap (λ (x : Window). x.verdict) e in cc

-- `show`, the two buffers included
pub show-one : {p : Plan} {ts : Tables} {from left : ℕ} {rows out rows₁ rows₂ out₁ out₂ : List ℕ} {r₁ r₂ : Result Said Refusal}
    → ShowsWindow p ts from left rows out (said_window r₁) rows₁ out₁ → ShowsWindow p ts from left rows out (said_window r₂) rows₂ out₂
    → (r₁ ≡ r₂) × ((rows₁ ≡ rows₂) × (out₁ ≡ out₂))
show-one v w =
    (windows_same _ _ (one_answer v.answer_is w.answer_is), (one_answer v.rows_are w.rows_are, one_answer v.out_is w.out_is))
