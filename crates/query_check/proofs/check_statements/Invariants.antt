use Rattle.refusal.specs.Verdict.{refuse_if}
use Rattle.refusal.proofs.First.{Walked}
use Rattle.std.proofs.Common.{length}
use Rattle.query.specs.declared.Statement.{Statement}
use Rattle.query_check.specs.Refusals.{high}
use Rattle.query_check.proofs.check_statements.Given as goal

-- none of the statements so far is high
abbrev pub invariant-loop-i : goal.invariant-loop-i
invariant-loop-i l = Walked (λ j (s : Statement). refuse_if (high l.variables s) 14 j) l.statements (length l.statements) 0 l.i l.i
