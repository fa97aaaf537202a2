-- What one look at a position comes to: laws of `next_swap_of`, for the proof of `next_value` and for callers.
use mathlib.Core.Path.{◌≡◌, refl, sym, ap, ◌∙◌}
use Prim.Native.Nat.{ℕ, zero, suc, ◌+◌, ◌-◌, ◌≤◌, ◌<◌}
use native.Mathlib.Numerals.{add-one}
use native.Mathlib.Omega.{arith}
use mathlib.Core.List.{List, [], ◌∷◌, ◌++◌, append_assoc}
use mathlib.Core.Bool.{Bool, true, false, cond}
use lib.ListN.{length, get_or, set, take, drop, replicate, take-append-drop}
use lib.Dec.{ltb}
use lib.Seq.{take-suc-set, drop-set-lt, get_or-set_other}
use borrow.Author.Tests.{lt-ltb, le-ltb, ltb-false}
use Rattle.std.specs.Prelude.{Ok, Err}
use Rattle.refusal.specs.Verdict.{Refusal}
use Rattle.refusal.proofs.Fine.{refuse-fine}
use Rattle.permutation.specs.declared.Permutations.{Permutations}
use Rattle.capacity.specs.Capacity.{max_elements}
use Rattle.permutation.specs.Swaps.{elements_fault, state_of, swap_at, given, no_swap, stop_from, stop_of, cleared, step_at, next_swap_of}

-- 40 is given exactly over the capacity
pub few-fine : (n : ℕ) → n ≤ max_elements → elements_fault n ≡ Ok tt
unfolding elements_fault
few-fine n m = rw (le-ltb max_elements n m)

pub fine-few : (n : ℕ) → elements_fault n ≡ Ok tt → n ≤ max_elements
unfolding elements_fault
fine-few n e = ltb-false max_elements n (refuse-fine _ _ _ e)

-- a state over the capacity is left as it was
pub refused-stays : (s : Permutations) (r : Refusal) → elements_fault s.n ≡ Err r → next_swap_of s ≡ record { next = no_swap (Err r); state = s }
unfolding next_swap_of
refused-stays s r e = rw e refl

-- a state within the capacity: a step stops where its look stops
pub looks : (s : Permutations) → s.n ≤ max_elements → next_swap_of s ≡ step_at s (stop_of s)
unfolding next_swap_of
looks s m = rw (few-fine s.n m)

-- with no position passed the counters stay
cleared-none : (ks : List ℕ) (i : ℕ) → cleared i i ks ≡ ks
unfolding cleared
cleared-none ks i = let e : i - i ≡ 0 = omega arith in rw (e) (take-append-drop i ks)

-- the look goes on from the next position
module _ (ks : List ℕ) (i p : ℕ) (h : i < p) (l : i < length ks) where
  cleared_more : cleared i p ks ≡ cleared (i + 1) p (set ks i 0)
  unfolding cleared
  cleared_more =
      let e : p - i ≡ suc (p - suc i) = omega arith in
      rw (add-one, take-suc-set ks i 0 l, drop-set-lt p ks i 0 h, e) (sym (append_assoc (take i ks) (0 ∷ []) (replicate (p - suc i) 0 ++ drop p ks)))

room : (n i : ℕ) → i < n → n - i ≡ suc (n - (i + 1))
room n i h = omega arith

-- a counter below its position gives the swap
pub next-gives : (n : ℕ) (ks : List ℕ) (i : ℕ) → n ≤ max_elements → i < n → get_or ks i 0 < i
    → next_swap_of (state_of n ks i) ≡ record { next = given (swap_at i (get_or ks i 0)); state = state_of n (set ks i (get_or ks i 0 + 1)) 0 }
unfolding stop_from
next-gives n ks i m h k = looks (state_of n ks i) m ∙ rw (room n i h, lt-ltb (get_or ks i 0) i k, lt-ltb i n h, cleared-none ks i)

-- past the last position none is left
pub next-ends : (n : ℕ) (ks : List ℕ) (i : ℕ) → n ≤ max_elements → n ≤ i → next_swap_of (state_of n ks i) ≡ record { next = no_swap (Ok tt); state = state_of n ks i }
unfolding stop_from
next-ends n ks i m h = let e : n - i ≡ 0 = omega arith in looks (state_of n ks i) m ∙ rw (e, le-ltb i n h, cleared-none ks i)

-- a look stops at its first position or later
stop-from : (ks : List ℕ) (left i : ℕ) → i ≤ stop_from ks left i
unfolding stop_from
stop-from ks zero i = omega arith
stop-from ks (suc left) i = later (ltb (get_or ks i 0) i) (stop-from ks left (i + 1))
  where
    later : (t : Bool) {p : ℕ} → i + 1 ≤ p → i ≤ cond t i p
    later true h = omega arith
    later false h = omega arith

-- and does not see the counters before it
stop-set : (ks : List ℕ) (left i j : ℕ) → i < j → stop_from (set ks i 0) left j ≡ stop_from ks left j
unfolding stop_from
stop-set ks zero i j h = refl
stop-set ks (suc left) i j h = rw (get_or-set_other ks i j 0 0 (omega arith), stop-set ks left i (j + 1) (omega arith))

-- any other is set to 0, and the next position is looked at
pub next-turns : (n : ℕ) (ks : List ℕ) (i : ℕ) → n ≤ max_elements → n ≤ length ks → i < n → i ≤ get_or ks i 0
    → next_swap_of (state_of n ks i) ≡ next_swap_of (state_of n (set ks i 0) (i + 1))
next-turns n ks i m l h k =
    let p : ℕ = stop_from ks (n - (i + 1)) (i + 1) in
    let q : i < p = omega (arith, stop-from ks (n - (i + 1)) (i + 1)) in
    let e : stop_from ks (n - i) i ≡ p = unfold stop_from in rw (room n i h, le-ltb (get_or ks i 0) i k) in
    looks (state_of n ks i) m ∙ ap (step_at (state_of n ks i)) e ∙
    rw (cleared_more ks i p q (omega arith), ← get_or-set_other ks i p 0 0 (omega arith))
    (ap (step_at (state_of n (set ks i 0) (i + 1))) (sym (stop-set ks (n - (i + 1)) i (i + 1) (omega arith))) ∙ sym (looks (state_of n (set ks i 0) (i + 1)) m))

-- the same of a state, as the loop of `next` holds it
module _ (s : Permutations) (few : s.n ≤ max_elements) where
  pub gives-at : s.i < s.n → get_or s.ks s.i 0 < s.i
      → next_swap_of s ≡ record { next = given (swap_at s.i (get_or s.ks s.i 0)); state = state_of s.n (set s.ks s.i (get_or s.ks s.i 0 + 1)) 0 }
  gives-at = next-gives s.n s.ks s.i few

  pub ends-at : s.n ≤ s.i → next_swap_of s ≡ record { next = no_swap (Ok tt); state = s }
  ends-at = next-ends s.n s.ks s.i few

  pub turns-at : s.n ≤ length s.ks → s.i < s.n → s.i ≤ get_or s.ks s.i 0 → next_swap_of s ≡ next_swap_of (state_of s.n (set s.ks s.i 0) (s.i + 1))
  turns-at = next-turns s.n s.ks s.i few

pub ruleset steps = (fine-few, refused-stays, gives-at, ends-at, turns-at)
