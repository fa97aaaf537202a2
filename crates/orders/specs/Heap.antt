-- B. R. Heap, "Permutations by Interchanges" (1963): the method, as the paper has it, by recursion on the number of objects.
use Rattle.std.specs.Prelude.{ℕ, zero, suc, ◌%◌, List, [], ◌∷◌, ◌++◌, cond, eqb}
use Rattle.permutation.specs.declared.Swap.{Swap}

-- of n = m + 1 objects the nth, which stands at position m, is interchanged with the first where n is odd, and where n is even
-- with the 1st, the 2nd, .. in turn: k interchanges came before this one
abbrev pub interchange : ℕ → ℕ → Swap
interchange m k = record { 0 = cond (eqb (suc m % 2) 1) 0 k; 1 = m }

-- c more interchanges of the nth object, k of them came before; after each all orders of the first m are gone through, by s
unfoldable pub laps : List Swap → ℕ → ℕ → ℕ → List Swap
laps s m zero k = []
laps s m (suc c) k = interchange m k ∷ (s ++ laps s m c (suc k))

-- the interchanges for n objects: the orders of the first n - 1, and again after each of n - 1 interchanges of the nth
unfoldable pub heap : ℕ → List Swap
heap zero = []
heap (suc m) = heap m ++ laps (heap m) m m 0
