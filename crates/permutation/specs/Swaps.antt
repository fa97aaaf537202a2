-- 01, "Swaps and the search": what `new` and `next` of 005 answer, and the state after it.
use Rattle.permutation.specs.declared.Stepped.{Stepped}
use Rattle.std.specs.Prelude.{Result, Option, Some, None, if◌then◌else◌}
use Rattle.refusal.specs.Verdict.{Refusal, answer}
use Rattle.std.specs.Prelude.{ℕ, zero, suc, ◌+◌, ◌-◌, ◌%◌, List, ◌++◌, true, false, cond, get_or, set, take, drop, replicate, ltb, eqb}
use Rattle.refusal.specs.Verdict.{Verdict}
use Rattle.std.specs.Prelude.{Ok}
use Rattle.refusal.specs.Verdict.{refuse_if, unless}
use Rattle.capacity.specs.Capacity.{max_elements}
use Rattle.permutation.specs.declared.Permutations.{Permutations}
use Rattle.permutation.specs.declared.Swap.{Swap}
use Rattle.permutation.specs.Answered.{Fresh}
use Rattle.permutation.specs.Answered.{NextSwap}
use Rattle.permutation.specs.Answered.{Step}

-- the state of n elements with the counters ks, at position i
abbrev pub state_of : ℕ → List ℕ → ℕ → Permutations
state_of n ks i = record { ks = ks; n = n; i = i }

-- n elements at the start: every counter 0, at position 0
abbrev pub start : ℕ → Permutations
start n = state_of n (replicate max_elements 0) 0

-- 40: a state of more elements than the capacity, asked for or given
unfoldable pub elements_fault : ℕ → Verdict
elements_fault n = refuse_if (ltb max_elements n) 40 0

-- a fresh state; where it is refused, the state of no elements, all zeros
unfoldable pub fresh_of : ℕ → Fresh
fresh_of n = unless (elements_fault n) (λ v. record { verdict = v; state = start 0 }) (record { verdict = Ok tt; state = start n })

-- at position i, whose counter is k: (0, i) if i is even, else (k, i)
abbrev pub swap_at : ℕ → ℕ → Swap
swap_at i k = record { 0 = cond (eqb (i % 2) 0) 0 k; 1 = i }

-- a step's answer that gives a swap, and one that gives none
abbrev pub given : Swap → NextSwap
given w = record { verdict = Ok tt; is_some = true; swap = w }

abbrev pub no_swap : Verdict → NextSwap
no_swap v = record { verdict = v; is_some = false; swap = record { 0 = 0; 1 = 0 } }

-- where a look from position i on stops with `left` positions to look at: at the first whose counter is below it, else past them all
unfoldable pub stop_from : List ℕ → ℕ → ℕ → ℕ
stop_from ks zero i = i
stop_from ks (suc left) i = cond (ltb (get_or ks i 0) i) i (stop_from ks left (i + 1))

abbrev pub stop_of : Permutations → ℕ
stop_of s = stop_from s.ks (s.n - s.i) s.i

-- the counters with those from position i up to p, p itself left out, set to 0
unfoldable pub cleared : ℕ → ℕ → List ℕ → List ℕ
cleared i p ks = take i ks ++ (replicate (p - i) 0 ++ drop p ks)

-- a step that stops at position p: below n it gives the swap at p, whose counter goes up by one, and the next look is from 0;
-- else none is left, and the position stays past the last. The positions passed have their counters set to 0
abbrev pub step_at : Permutations → ℕ → Step
step_at s p =
    cond (ltb p s.n)
    (record { next = given (swap_at p (get_or s.ks p 0)); state = state_of s.n (set (cleared s.i p s.ks) p (get_or s.ks p 0 + 1)) 0 })
    (record { next = no_swap (Ok tt); state = state_of s.n (cleared s.i p s.ks) p })

-- a step; where it is refused, no swap, and the state as it was given
unfoldable pub next_swap_of : Permutations → Step
next_swap_of s = unless (elements_fault s.n) (λ v. record { next = no_swap v; state = s }) (step_at s (stop_of s))

-- an answer of `next`: none where there is no further swap
abbrev pub said_swap : NextSwap → Result (Option Swap) Refusal
said_swap n = answer n.verdict (if n.is_some then Some n.swap else None)

-- what the step by value answers
abbrev pub stepped_of : Permutations → Stepped
stepped_of s = record { next = said_swap (next_swap_of s).next; state = (next_swap_of s).state }
