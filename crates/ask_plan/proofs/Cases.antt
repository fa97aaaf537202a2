-- Laws of what is planned for a question where types are checked, case by case.
use mathlib.Core.Path.{◌≡◌}
use mathlib.Core.Bool.{true, false}
use mathlib.Core.List.{List}
use Prim.Native.Nat.{ℕ}
use Rattle.refusal.specs.Verdict.{Verdict}
use Rattle.std.specs.Prelude.{Ok}
use Rattle.query.specs.declared.Query.{Query}
use Rattle.types.specs.Answered.{Inferred}
use Rattle.types.specs.Types.{inferred_of}
use Rattle.ask_question.specs.Parts.{checks_types}
use Rattle.ask_plan.specs.Answer.{planned_with_cost, types_asked, answer_with}

module _ (t : ℕ) (q : Query) (types : List ℕ) where
  pub types-unasked : checks_types t ≡ false → (Ok tt) ≡ types_asked t q types
  unfolding types_asked
  types-unasked h = rw h

  pub types-checked : (x : Inferred) → checks_types t ≡ true → x ≡ inferred_of q types → x.verdict ≡ types_asked t q types
  unfolding types_asked
  types-checked x h e = rw (h, e)

  module _ (v : Verdict) (e : v ≡ types_asked t q types) where
    pub answer-fine : v ≡ Ok tt → planned_with_cost t q ≡ answer_with t q types
    unfolding answer_with
    answer-fine h = rw (← e, h)
