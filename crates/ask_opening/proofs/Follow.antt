-- Where rows follow, evaluation refuses neither the plan nor the tables; and the plan has an array of selects of the full length.
use mathlib.Core.Path.{◌≡◌, refl}
use mathlib.Core.Bool.{Bool, true, false, cond, false≢true}
use mathlib.Core.List.{List, ◌++◌}
use Prim.Native.Nat.{ℕ, ◌-◌}
use lib.ListN.{length, length-replicate}
use Rattle.capacity.specs.Capacity.{max_selects}
use Rattle.refusal.specs.Verdict.{Verdict}
use Rattle.std.specs.Prelude.{Ok, Err}
use Rattle.refusal.specs.Verdict.{unless}
use Rattle.refusal.proofs.Fine.{or-fine}
use Rattle.plan.specs.declared.Slot.{Slot}
use Rattle.plan.specs.declared.Plan.{Plan}
use Rattle.plan.specs.Plan.{zero_slot}
use Rattle.ask_lines.specs.Lines.{cost_line}
use Rattle.plan_text.specs.Text.{text_of}
use Rattle.plan_text.specs.Answer.{text_fault}
use Rattle.eval.specs.Evaluation.{evaluation_fault}
use Rattle.ask_plan.specs.Answer.{answer_of}
use Rattle.ask_plan.proofs.Sized.{answer-sized}
use Rattle.ask_opening.specs.Question.{is_question, names_of, ends_of, tables_in}
use Rattle.ask_opening.specs.Opening.{cost_bytes, Said, outside, refusal, showing_fault, opened_with, opened, opening_of}

module _ (ws : List ℕ) where
  -- of what is said: rows follow only of a plan that evaluation does not refuse
  pub record Follows (s : Said) : Type 0 where
    pub fine : s.rows ≡ true → evaluation_fault s.plan (tables_in ws) ≡ Ok tt
    pub selects : length s.plan.select ≡ max_selects

  refusal-follows : (v : Verdict) → Follows (refusal v)
  refusal-follows v = record { fine = λ e. absurd (false≢true e); selects = length-replicate {0} {A = Slot} max_selects zero_slot }

  outside-follows : Follows outside
  outside-follows = record { fine = λ e. absurd (false≢true e); selects = length-replicate {0} {A = Slot} max_selects zero_slot }

  with-follows : (p : Plan) (cost room : ℕ) (names ends : List ℕ) → length p.select ≡ max_selects → Follows (opened_with ws p cost names ends room)
  unfolding opened_with showing_fault
  with-follows p cost room names ends sized = by_cases (showing_fault ws p names ends room) refl
    where
      by_cases : (v : Verdict) → showing_fault ws p names ends room ≡ v
          → Follows (unless {A = Said} v refusal (record { rows = true; plan = p; text = text_of p names ends ++ cost_line cost }))
      by_cases (Ok tt) e = record { fine = λ f. (or-fine (text_fault p names ends (room - cost_bytes)) _ e).1; selects = sized }
      by_cases (Err r) e = refusal-follows (Err r)

  pub follows : (room : ℕ) → Follows (opening_of ws room)
  unfolding opening_of opened
  follows room = by_cases (is_question ws) (answer_of ws).verdict
    where
      by_cases : (t : Bool) (v : Verdict)
          → Follows (cond t (unless v refusal (opened_with ws (answer_of ws).plan (answer_of ws).cost (names_of ws) (ends_of ws (answer_of ws).plan.slot_count) room)) outside)
      by_cases true (Ok tt) = with-follows (answer_of ws).plan _ room _ _ (answer-sized ws)
      by_cases true (Err r) = refusal-follows (Err r)
      by_cases false v = outside-follows
