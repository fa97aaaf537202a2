-- Before turn i the words of the first i are written.
use Rattle.std.proofs.Common.{◌≡◌, take}
use Rattle.lists.specs.Laid.{laid}
use Rattle.loader_words.specs.Words.{slots_at}
use Rattle.loader_plan_words.specs.Write.{put_at, words_of_slot}
use Rattle.loader_plan_words.proofs.write_slots.Given as goal

abbrev pub invariant-loop-i : goal.invariant-loop-i
invariant-loop-i l = l.words ≡ put_at slots_at (laid words_of_slot (take l.i l.slots)) l.initial.words
