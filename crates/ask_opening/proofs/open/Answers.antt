-- No question, a refusal, or a plan.
use Rattle.std.proofs.Common.{sym, ◌∙◌}
use Rattle.ask_opening.proofs.Said.{answer-asked, opens_as, said-outside, said-refused, said-planned}
use Rattle.ask_opening.proofs.open.Goals as goal

pub returns-then-not-is_question : goal.returns-then-not-is_question
returns-then-not-is_question c = opens_as (said-outside _ _ (sym c.is_question.ensures ∙ c.if-not-is_question.true)) c.say_outside.ensures

pub returns-in-Err : goal.returns-in-Err
returns-in-Err c =
    let answer = answer-asked _ _ c.find_parts-parts.ensures _ _ _ _ c.word_at.ensures c.read_query-query.ensures c.items.ensures c.plan_asked-planned.ensures in
    opens_as (said-refused _ _ (sym c.is_question.ensures ∙ c.if-not-is_question.false) _ (sym c.in-Err.is ∙ answer)) c.say_refusal.ensures

pub returns-in-Ok : goal.returns-in-Ok
returns-in-Ok c =
    let answer = answer-asked _ _ c.find_parts-parts.ensures _ _ _ _ c.word_at.ensures c.read_query-query.ensures c.items.ensures c.plan_asked-planned.ensures in
    opens_as (said-planned _ _ (sym c.is_question.ensures ∙ c.if-not-is_question.false) _ (sym c.in-Ok.is ∙ answer)) c.open_planned.ensures
