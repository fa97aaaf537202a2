-- A number begins with a digit, and goes on with digits.
use Rattle.ask_numbers.proofs.Saying.{said-digit, said-other}
use Rattle.ask_numbers.proofs.number_at.Goals as goal

pub returns-in_err-first : goal.returns-in_err-first
returns-in_err-first c = rw c.from_residual.ensures (said-other _ _ c.requires.in_text c.requires.no_space c.in_err-first.ensures)

pub returns : goal.returns
returns c =
    let d = c.in_ok-first.ensures in
    rw (said-digit _ _ c.requires.in_text c.requires.no_space d.0, ← d.1) c.digits_at.ensures
