-- Before turn i the words of the first i are written.
use Rattle.std.proofs.Common.{◌≡◌, take}
use Rattle.lists.specs.Laid.{laid}
use Rattle.loader_words.specs.Words.{select_at}
use Rattle.loader_plan_words.specs.Write.{put_at, words_of_select}
use Rattle.loader_plan_words.proofs.write_select.Given as goal

abbrev pub invariant-loop-i : goal.invariant-loop-i
invariant-loop-i l = l.words ≡ put_at select_at (laid words_of_select (take l.i l.select)) l.initial.words
