-- How a swap state stands as words: how many elements, the position, the counters.
use Rattle.std.specs.Prelude.{ℕ, ◌+◌, List, ◌∷◌, get_or}
use Rattle.lists.specs.Tabled.{tabled}
use Rattle.capacity.specs.Capacity.{max_elements}
use Rattle.permutation.specs.declared.Permutations.{Permutations}
use Rattle.permutation.specs.Swaps.{state_of}

-- where the counters start, and how many words a state has
abbrev pub counters_at : ℕ
counters_at = 2

abbrev pub state_words : ℕ
state_words = counters_at + max_elements

-- the word at a place; counter i
abbrev pub word : List ℕ → ℕ → ℕ
word ws j = get_or ws j 0

abbrev pub counter_at : List ℕ → ℕ → ℕ
counter_at ws i = word ws (counters_at + i)

abbrev pub counters_in : List ℕ → List ℕ
counters_in ws = tabled (counter_at ws) max_elements

-- the state that words say
abbrev pub state_of_words : List ℕ → Permutations
state_of_words ws = state_of (word ws 0) (counters_in ws) (word ws 1)

-- the words of a state
abbrev pub words_of_state : Permutations → List ℕ
words_of_state s = s.n ∷ s.i ∷ s.ks
