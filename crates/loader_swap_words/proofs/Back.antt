-- Reading what was written gives the state back.
use mathlib.Core.Path.{◌≡◌, refl}
use lib.ListN.{length}
use Rattle.capacity.specs.Capacity.{max_elements}
use Rattle.lists.proofs.Tabled.{tabled-same}
use Rattle.permutation.specs.declared.Permutations.{Permutations}
use Rattle.loader_swap_words.specs.State.{counter_at, counters_in, state_of_words, words_of_state}
use Rattle.loader_swap_words.proofs.Copied.{counter-word}

-- of a state as the code holds it: a counter for each element that it can have
pub state-back : (s : Permutations) → length s.ks ≡ max_elements → state_of_words (words_of_state s) ≡ s
state-back s full =
    let counters : counters_in (words_of_state s) ≡ s.ks = tabled-same (counter_at (words_of_state s)) s.ks 0 max_elements full (λ i h. counter-word s i) in
    rw counters refl
