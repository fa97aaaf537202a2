-- An array that is filled from the front with what another list has.
use mathlib.Core.Path.{◌≡◌, refl, sym, ◌∙◌}
use Prim.Native.Nat.{ℕ, ◌+◌, ◌<◌}
use mathlib.Core.List.{List}
use native.Mathlib.Omega.{arith}
use native.Mathlib.Numerals.{add-one}
use lib.ListN.{length, get_or, set, take}
use lib.Seq.{take-suc, take-suc-set, take_all, get_or-drop}
use Rattle.permutation.specs.declared.Permutations.{Permutations}
use Rattle.loader_swap_words.specs.State.{counters_at, counter_at, words_of_state}

-- one element more
pub copied_more : (l m : List ℕ) (i v : ℕ) → i < length l → i < length m → v ≡ get_or m i 0 → take i l ≡ take i m → take (i + 1) (set l i v) ≡ take (i + 1) m
copied_more l m i v h k e done = rw (add-one i, take-suc-set l i v h, take-suc m i 0 k, done, e) refl

-- and all
pub copied_all : (l m : List ℕ) (n : ℕ) → length l ≡ n → length m ≡ n → take n l ≡ take n m → l ≡ m
copied_all l m n h k done = sym (take_all n l (omega (arith, h))) ∙ done ∙ take_all n m (omega (arith, k))

-- the counters stand behind the two numbers
pub counter-word : (s : Permutations) (i : ℕ) → counter_at (words_of_state s) i ≡ get_or s.ks i 0
counter-word s i = sym (get_or-drop counters_at (words_of_state s) i 0)
