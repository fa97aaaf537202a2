-- A refusal; or lines, and after the last window the last line.
use Rattle.std.proofs.Common.{◌≡◌, refl, Err, rules}
use Rattle.std.specs.Prelude.{Result}
use Rattle.refusal.specs.Verdict.{Refusal}
use Rattle.ask_rows.specs.declared.Window.{Window}
use Rattle.ask_rows.proofs.Shown.{refused-shows, shows}
use Rattle.ask_rows.proofs.show.Goals as goal

pub returns-in_err-shown : goal.returns-in_err-shown
returns-in_err-shown c =
    let e : ◌≡◌ {A = Result Window Refusal} c.from_residual.result (Err c.in_err-shown.field-0.0) = search rules in
    rw e (refused-shows c.in_err-shown.ensures refl)

pub returns : goal.returns
returns c =
    let rows = c.write_rows-at.ensures in
    shows c.in_ok-shown.ensures refl rows.written rows.upper_bound _ c.advance-step.ensures c.write_end-length.ensures
