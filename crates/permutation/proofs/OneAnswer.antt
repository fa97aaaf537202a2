-- No second answer fits the promises of this crate: what `new`, `next_value` and `next` say is one answer, and `next` leaves one state.
use mathlib.Core.Path.{◌≡◌}
use Prim.Native.Nat.{ℕ}
use Rattle.std.specs.Prelude.{Result, Option}
use Rattle.refusal.specs.Verdict.{Refusal, answer}
use Rattle.refusal.proofs.OneAnswer.{one_answer}
use Rattle.permutation.specs.declared.Permutations.{Permutations}
use Rattle.permutation.specs.Swaps.{said_swap, stepped_of, fresh_of, next_swap_of}
use Rattle.permutation.specs.declared.Swap.{Swap}
use Rattle.permutation.specs.declared.Stepped.{Stepped}

pub new-one : (n : ℕ) (r r' : Result Permutations Refusal) → r ≡ answer (fresh_of n).verdict (fresh_of n).state → r' ≡ answer (fresh_of n).verdict (fresh_of n).state → r ≡ r'
new-one n r r' = one_answer

pub step-one : (s : Permutations) (r r' : Stepped) → r ≡ stepped_of s → r' ≡ stepped_of s → r ≡ r'
step-one s r r' = one_answer

-- of the lent state s: what `next` answers, and the state that it leaves
pub next_one : (s : Permutations) (r r' : Result (Option Swap) Refusal) (t t' : Permutations)
    → (r ≡ said_swap (next_swap_of s).next) × (t ≡ (next_swap_of s).state) → (r' ≡ said_swap (next_swap_of s).next) × (t' ≡ (next_swap_of s).state) → (r ≡ r') × (t ≡ t')
next_one s r r' t t' p q = (one_answer p.0 q.0, one_answer p.1 q.1)
