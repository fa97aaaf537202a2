-- `infer_statements`: what it has done after i statements.
use Rattle.types.proofs.Begun.{Begun}
use Rattle.types.proofs.infer_statements.Given as goal

abbrev pub invariant-loop-i : goal.invariant-loop-i
invariant-loop-i l = Begun l.statements l.table l.known l.i
