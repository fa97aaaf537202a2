-- What is left from select i on gives the answer of the whole.
use Rattle.std.proofs.Common.{◌≡◌, drop}
use Rattle.plan_check.specs.Check.{selects_fault}
use Rattle.plan_check.proofs.check_selects.Given as goal

abbrev pub invariant-loop-i_select : goal.invariant-loop-i_select
invariant-loop-i_select l = selects_fault l.slots l.select 0 ≡ selects_fault l.slots (drop l.i_select l.select) l.i_select
