-- Before turn i the first i are read.
use Rattle.std.proofs.Common.{◌≡◌, length, take}
use Rattle.capacity.specs.Capacity.{max_scans}
use Rattle.lists.specs.Tabled.{tabled}
use Rattle.loader_words.specs.Words.{scan_at}
use Rattle.loader_words.proofs.read_scans.Given as goal

abbrev pub invariant-loop-i : goal.invariant-loop-i
invariant-loop-i l = (length l.scans ≡ max_scans) × (take l.i l.scans ≡ tabled (scan_at l.words) l.i)
