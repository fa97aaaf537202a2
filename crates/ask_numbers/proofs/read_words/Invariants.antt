-- The numbers so far stand in front of the buffer, and what is left of the text says the rest.
use Rattle.std.proofs.Common.{◌≡◌, ◌<◌, ◌-◌, false, length, get_or}
use Rattle.ask_numbers.specs.Words.{space}
use Rattle.ask_numbers.proofs.Reading.{SoFar}
use Rattle.ask_numbers.proofs.read_words.Given as goal

abbrev pub invariant-loop-at : goal.invariant-loop-at
invariant-loop-at l = SoFar l.text l.fn.words l.words l.at l.count × (l.at < length l.text → space (get_or l.text l.at 0) ≡ false)

abbrev pub decreases-loop-at : goal.decreases-loop-at
decreases-loop-at l = length l.text - l.at
