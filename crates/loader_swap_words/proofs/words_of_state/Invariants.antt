-- Before turn i the two numbers and the first i counters are written.
use Rattle.std.proofs.Common.{◌≡◌, ◌+◌, length, take}
use Rattle.loader_swap_words.specs.State.{counters_at, state_words, words_of_state}
use Rattle.loader_swap_words.proofs.words_of_state.Given as goal

abbrev pub invariant-loop-i : goal.invariant-loop-i
invariant-loop-i l = (length l.words ≡ state_words) × (take (counters_at + l.i) l.words ≡ take (counters_at + l.i) (words_of_state l.fn.state))
