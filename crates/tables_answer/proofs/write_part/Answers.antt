-- A part is short.
use native.Mathlib.Omega.{arith}
use Rattle.tables_answer.proofs.Written.{part-short}
use Rattle.tables_answer.proofs.write_part.Goals as goal

pub returns-clause-upper_bound : goal.returns-clause-upper_bound
returns-clause-upper_bound c =
    let w = c.write_lines.ensures.written in
    let short = part-short c.args.table.now (omega arith) (λ i. omega (arith, c.type_inv.table i)) in
    omega (arith, short, w.position_is)
