-- Before turn i the first i are written.
use Rattle.std.proofs.Common.{◌≡◌, take}
use Rattle.eval.specs.Evaluation.{numbers_of}
use Rattle.eval.proofs.setup.write_selects.Given as goal

abbrev pub invariant-loop-i : goal.invariant-loop-i
invariant-loop-i l = take l.i l.selects ≡ numbers_of (take l.i l.select)
