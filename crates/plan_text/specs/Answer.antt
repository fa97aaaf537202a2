-- 01, "Plan text": what the call answers and what the buffer holds after it.
use Rattle.std.specs.Prelude.{ℕ, List, ◌++◌, length, drop, ltb}
use Rattle.refusal.specs.Verdict.{Verdict}
use Rattle.std.specs.Prelude.{Ok}
use Rattle.refusal.specs.Verdict.{refuse_if, or_else, unless}
use Rattle.plan.specs.declared.Plan.{Plan}
use Rattle.text_names.specs.Names.{names_fault}
use Rattle.plan_text.specs.Answered.{Formatted}
use Rattle.plan_text.specs.Text.{text_of}

-- the plan check, 30; 31: text buffer too short for the whole text
unfoldable pub text_fault : Plan → List ℕ → List ℕ → ℕ → Verdict
text_fault p names ends room = or_else (names_fault p names ends) (refuse_if (ltb room (length (text_of p names ends))) 31 0)

-- the text's length
unfoldable pub formatted_of : Plan → List ℕ → List ℕ → ℕ → Formatted
formatted_of p names ends room =
    unless (text_fault p names ends room) (λ v. record { verdict = v; length = 0 }) (record { verdict = Ok tt; length = length (text_of p names ends) })

-- the text, and past it what was there; refused, what was there
unfoldable pub text_after : Plan → List ℕ → List ℕ → List ℕ → List ℕ
text_after p names ends buffer =
    unless (text_fault p names ends (length buffer)) (λ _. buffer) (text_of p names ends ++ drop (length (text_of p names ends)) buffer)
