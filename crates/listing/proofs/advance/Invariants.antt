-- The scans so far have wrapped, and what is left to be stepped gives the answer of the whole.
use Rattle.std.proofs.Common.{◌≡◌, ◌++◌, take, drop}
use Rattle.listing.specs.Next.{next_scans, is_new_scans}
use Rattle.listing.proofs.advance.Given as goal

abbrev pub invariant-loop-scan : goal.invariant-loop-scan
invariant-loop-scan l = record {
  steps : next_scans l.fn.scans ≡ take l.scan-index l.scans ++ next_scans (drop l.scan-index l.scans);
  says : is_new_scans l.fn.scans ≡ is_new_scans (drop l.scan-index l.scans);
}
