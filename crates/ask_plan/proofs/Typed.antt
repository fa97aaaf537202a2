-- What checking the types changes: tasks 2 and 3 plan as 0 and 1 do, and exactly the queries that can be typed.
use mathlib.Core.Path.{◌≡◌, refl, ◌∙◌}
use mathlib.Core.Bool.{true, false}
use mathlib.Core.List.{List}
use Prim.Native.Nat.{ℕ}
use Rattle.refusal.specs.Verdict.{Verdict}
use Rattle.std.specs.Prelude.{Ok, Err}
use Rattle.refusal.specs.Verdict.{unless}
use Rattle.query.specs.declared.Query.{Query}
use Rattle.types.specs.Types.{inferred_of}
use Rattle.types.specs.Meaning.{CanBeTyped}
use Rattle.types.proofs.Meaning.{types-demanded}
use Rattle.ask_question.specs.Parts.{checks_types}
use Rattle.ask_plan.specs.Answered.{Answer}
use Rattle.ask_plan.specs.Answer.{refused_with, searches, planned_for, planned_with_cost, types_asked, answer_with}
use Rattle.ask_plan.proofs.Cases.{types-unasked, types-checked, answer-fine}

-- 2 is as 0, and 3 as 1
pub as-given : (q : Query) → planned_with_cost 2 q ≡ planned_with_cost 0 q
unfolding planned_with_cost planned_for searches
as-given q = refl

pub as-searched : (q : Query) → planned_with_cost 3 q ≡ planned_with_cost 1 q
unfolding planned_with_cost planned_for searches
as-searched q = refl

-- what is not refused was not refused before
fine-first : (v : Verdict) (a : Answer) → (unless v refused_with a).verdict ≡ Ok tt → v ≡ Ok tt
fine-first (Ok tt) a e = refl
fine-first (Err r) a e = e

module _ (t : ℕ) (q : Query) (types : List ℕ) where
  pub unchecked-planned : checks_types t ≡ false → planned_with_cost t q ≡ answer_with t q types
  unchecked-planned h = answer-fine t q types (Ok tt) (types-unasked t q types h) refl

  module _ (h : checks_types t ≡ true) where
    checked : (inferred_of q types).verdict ≡ types_asked t q types
    checked = types-checked t q types (inferred_of q types) h refl

    pub typed-planned : CanBeTyped q types → planned_with_cost t q ≡ answer_with t q types
    typed-planned c = answer-fine t q types _ checked ((types-demanded q types).answered c)

    pub planned-typed : (answer_with t q types).verdict ≡ Ok tt → CanBeTyped q types
    unfolding answer_with
    planned-typed e = (types-demanded q types).typed (checked ∙ fine-first (types_asked t q types) (planned_with_cost t q) e)
