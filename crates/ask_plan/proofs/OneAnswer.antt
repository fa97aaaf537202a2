-- No second answer fits the promise of this crate.
use mathlib.Core.Path.{◌≡◌, sym, ◌∙◌}
use mathlib.Core.List.{List}
use Prim.Native.Nat.{ℕ}
use Rattle.query.specs.declared.Query.{Query}
use Rattle.ask_plan.specs.Answer.{answer_with}
use Rattle.std.specs.Prelude.{Result}
use Rattle.refusal.specs.Verdict.{Refusal}
use Rattle.ask_plan.specs.declared.Chosen.{Chosen}
use Rattle.ask_plan.specs.Answer.{said_answer}

-- `plan_asked`
pub plan-asked-one : (task : ℕ) (q : Query) (types : List ℕ) {r s : Result Chosen Refusal} → r ≡ said_answer (answer_with task q types) → s ≡ said_answer (answer_with task q types) → r ≡ s
plan-asked-one task q types e f = e ∙ sym f
