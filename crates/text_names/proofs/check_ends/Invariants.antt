-- What is left from an end on gives the answer of the whole.
use Rattle.std.proofs.Common.{◌≡◌, length, drop}
use Rattle.text_names.specs.Names.{wrong_ends}
use Rattle.text_names.proofs.check_ends.Given as goal

abbrev pub invariant-loop-end : goal.invariant-loop-end
invariant-loop-end l = wrong_ends (length l.names) 0 l.ends ≡ wrong_ends (length l.names) l.before (drop l.end-index l.ends)
