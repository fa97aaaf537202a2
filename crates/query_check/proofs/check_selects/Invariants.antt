use Rattle.refusal.specs.Verdict.{refuse_if}
use Rattle.refusal.proofs.First.{Walked}
use Rattle.std.proofs.Common.{◌+◌, length, leb}
use Rattle.query.specs.declared.Var.{Var}
use Rattle.query_check.proofs.check_selects.Given as goal

-- none of the selects so far is too high
abbrev pub invariant-loop-i : goal.invariant-loop-i
invariant-loop-i l =
    Walked (λ j (v : Var). refuse_if (leb l.variables v.0) 14 j) l.select (length l.select) l.statement_count (l.statement_count + l.i) l.i
