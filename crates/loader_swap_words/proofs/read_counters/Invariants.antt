-- Before turn i the first i are read.
use Rattle.std.proofs.Common.{◌≡◌, length, take}
use Rattle.capacity.specs.Capacity.{max_elements}
use Rattle.lists.specs.Tabled.{tabled}
use Rattle.loader_swap_words.specs.State.{counter_at}
use Rattle.loader_swap_words.proofs.read_counters.Given as goal

abbrev pub invariant-loop-i : goal.invariant-loop-i
invariant-loop-i l = (length l.k-items ≡ max_elements) × (take l.i l.k-items ≡ tabled (counter_at l.words) l.i)
