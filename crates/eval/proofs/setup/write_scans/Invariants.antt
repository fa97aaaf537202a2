-- Before turn i the words of the first i scans are written.
use Rattle.std.proofs.Common.{◌≡◌, ◌*◌, take}
use Rattle.eval.specs.Words.{laid_words, words_of}
use Rattle.eval.proofs.setup.write_scans.Given as goal

abbrev pub invariant-loop-i : goal.invariant-loop-i
invariant-loop-i l = take (laid_words * l.i) l.words ≡ words_of (take l.i l.scans)
