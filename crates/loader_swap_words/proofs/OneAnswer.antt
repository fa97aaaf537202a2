-- No second answer fits the promises of this crate.
use mathlib.Core.Path.{◌≡◌}
use mathlib.Core.List.{List}
use Prim.Native.Nat.{ℕ}
use Rattle.refusal.proofs.OneAnswer.{one_answer}
use Rattle.permutation.specs.declared.Permutations.{Permutations}
use Rattle.loader_swap_words.specs.State.{state_of_words, words_of_state}

pub read-state-one : (ws : List ℕ) (r r' : Permutations) → r ≡ state_of_words ws → r' ≡ state_of_words ws → r ≡ r'
read-state-one ws r r' = one_answer

pub words-of-state-one : (s : Permutations) (r r' : List ℕ) → r ≡ words_of_state s → r' ≡ words_of_state s → r ≡ r'
words-of-state-one s r r' = one_answer
