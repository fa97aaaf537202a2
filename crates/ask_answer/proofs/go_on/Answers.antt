-- The parts are the tables, and the window is the next part.
use Rattle.std.proofs.Common.{◌≡◌, Err, rules}
use Rattle.std.specs.Prelude.{Result}
use Rattle.refusal.specs.Verdict.{Refusal}
use Rattle.ask_answer.specs.declared.Part.{Part}
use Rattle.ask_answer.proofs.Handed.{goes_on}
use Rattle.ask_answer.proofs.go_on.Goals as goal

pub returns-in_err-window : goal.returns-in_err-window
returns-in_err-window c =
    let e : ◌≡◌ {A = Result Part Refusal} c.from_residual.result (Err c.in_err-window.field-0.0) = search rules in
    rw e (goes_on c.args.following _ c.find_parts-parts.ensures c.items-aevt.ensures c.items-avet.ensures c.items-eavt.ensures c.in_err-window.ensures)

pub returns-then-window : goal.returns-then-window
returns-then-window c =
    rw c.if-window.true at (goes_on c.args.following _ c.find_parts-parts.ensures c.items-aevt.ensures c.items-avet.ensures c.items-eavt.ensures c.in_ok-window.ensures)

pub returns : goal.returns
returns c =
    rw c.if-window.false at (goes_on c.args.following _ c.find_parts-parts.ensures c.items-aevt.ensures c.items-avet.ensures c.items-eavt.ensures c.in_ok-window.ensures)
