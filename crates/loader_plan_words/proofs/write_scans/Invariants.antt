-- Before turn i the words of the first i are written.
use Rattle.std.proofs.Common.{◌≡◌, take}
use Rattle.lists.specs.Laid.{laid}
use Rattle.loader_words.specs.Words.{scans_at}
use Rattle.loader_plan_words.specs.Write.{put_at, words_of_scan}
use Rattle.loader_plan_words.proofs.write_scans.Given as goal

abbrev pub invariant-loop-i : goal.invariant-loop-i
invariant-loop-i l = l.words ≡ put_at scans_at (laid words_of_scan (take l.i l.scans)) l.initial.words
