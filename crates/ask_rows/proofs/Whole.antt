-- All windows, from the first to the last, write the text of all rows: each shows a row or is the last, so that there are at most as many as rows
-- are asked for, and one more.
use mathlib.Core.Path.{◌≡◌, refl, sym, ap}
use mathlib.Core.Bool.{Bool, true, false}
use Prim.Native.Nat.{ℕ, zero, suc, ◌-◌, ◌^◌, ◌≤◌, ◌<◌}
use native.Mathlib.Omega.{arith}
use lib.ListN.{length}
use Rattle.capacity.specs.Capacity.{max_selects}
use Rattle.std.specs.Prelude.{Ok}
use Rattle.plan.specs.declared.Plan.{Plan}
use Rattle.visits.specs.Visits.{Tables}
use Rattle.eval.specs.Evaluation.{evaluation_fault}
use Rattle.ask_rows.specs.declared.Step.{Step}
use Rattle.ask_rows.specs.Windows.{rows_text, shown_of, more_of, is_last, window_step, windows_text}
use Rattle.ask_rows.proofs.Stepped.{step-last, step-on}
use Rattle.ask_rows.proofs.Joined.{further, joined, still-numbered}

module _ (p : Plan) (ts : Tables) (selects : length p.select ≡ max_selects) (fine : evaluation_fault p ts ≡ Ok tt) (room : ℕ) (fits : p.select_count ≤ room) where
  pub whole : (n from left : ℕ) → left < n → left ≤ 2 ^ 64 - from → windows_text n p ts from left room ≡ rows_text p ts from left
  unfolding windows_text
  whole zero from left few numbered = absurd (omega arith)
  whole (suc n) from left few numbered =
      by_cases (λ i k. whole n i k) (is_last (more_of p ts from left room) (length (shown_of p ts from left room)) from left) refl
    where
      by_cases : ((i k : ℕ) → k < n → k ≤ 2 ^ 64 - i → windows_text n p ts i k room ≡ rows_text p ts i k) → (t : Bool)
          → is_last (more_of p ts from left room) (length (shown_of p ts from left room)) from left ≡ t
          → windows_text (suc n) p ts from left room ≡ rows_text p ts from left
      by_cases later true e =
          let last : (window_step p ts from left room).last ≡ true = ap (λ (s : Step). s.last) (sym (step-last _ _ from left e)) in
          let j = joined p ts selects fine from left room fits numbered in
          rw last (sym (rw last at j))
      by_cases later false e =
          let on : (window_step p ts from left room).last ≡ false = ap (λ (s : Step). s.last) (sym (step-on _ _ from left e)) in
          let on-falls = (further p ts selects fine from left room fits e).1 in
          let j = joined p ts selects fine from left room fits numbered in
          let rest = later (window_step p ts from left room).from (window_step p ts from left room).left (omega arith) (still-numbered p ts selects fine from left room fits numbered) in
          rw (on, rest) (sym (rw on at j))
