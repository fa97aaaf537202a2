-- Before turn i the first i are read.
use Rattle.std.proofs.Common.{◌≡◌, length, take}
use Rattle.capacity.specs.Capacity.{max_selects}
use Rattle.lists.specs.Tabled.{tabled}
use Rattle.loader_words.specs.Words.{selected_at}
use Rattle.loader_words.proofs.read_select.Given as goal

abbrev pub invariant-loop-i : goal.invariant-loop-i
invariant-loop-i l = (length l.select ≡ max_selects) × (take l.i l.select ≡ tabled (selected_at l.words) l.i)
