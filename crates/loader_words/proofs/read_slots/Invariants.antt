-- Before turn i the first i are read.
use Rattle.std.proofs.Common.{◌≡◌, length, take}
use Rattle.capacity.specs.Capacity.{max_slots}
use Rattle.lists.specs.Tabled.{tabled}
use Rattle.loader_words.specs.Words.{slot_at}
use Rattle.loader_words.proofs.read_slots.Given as goal

abbrev pub invariant-loop-i : goal.invariant-loop-i
invariant-loop-i l = (length l.slots ≡ max_slots) × (take l.i l.slots ≡ tabled (slot_at l.words) l.i)
