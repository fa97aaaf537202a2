-- A word has at most 20 digits.
use Rattle.std.proofs.Common.{◌*◌, arith}
use Rattle.ask_lines.proofs.Lengths.{rows_short}
use Rattle.ask_rows.proofs.write_rows.Goals as goal

pub returns-clause-upper_bound : goal.returns-clause-upper_bound
returns-clause-upper_bound c =
    let a = c.args in
    let short = rows_short (a.count * a.width) a.width a.width a.rows.now (λ i. omega (arith, c.type_inv.rows i)) in
    let w = c.write_rows.ensures.written in
    omega (arith, w.position_is)
