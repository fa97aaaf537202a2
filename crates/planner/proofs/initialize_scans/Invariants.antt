-- Each turn is one of proofs/Begun.antt's.
use Rattle.std.proofs.Common.{length}
use Rattle.planner.proofs.Begun.{Begun}
use Rattle.planner.proofs.initialize_scans.Given as goal

abbrev pub invariant-loop-i : goal.invariant-loop-i
invariant-loop-i l = Begun l.variables (length l.statements) l.statements l.slot_initialized.0 l.scans l.slot_count l.i
