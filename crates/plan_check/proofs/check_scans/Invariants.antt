-- What is left from scan i on, with the record as it then is, gives the answer of the whole.
use Rattle.std.proofs.Common.{◌≡◌, length, drop}
use Rattle.plan_check.specs.Record.{scans_fault_in}
use Rattle.plan_check.proofs.check_scans.Given as goal

abbrev pub invariant-loop-i_scan : goal.invariant-loop-i_scan
invariant-loop-i_scan l =
    scans_fault_in (length l.initialization) l.fn.initialization l.scans 0 ≡ scans_fault_in (length l.initialization) l.initialization (drop l.i_scan l.scans) l.i_scan
