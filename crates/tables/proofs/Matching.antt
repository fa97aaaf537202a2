-- The rows that begin with a key are those between two bounds: below the first none begins with it, nor from the second on.
use mathlib.Core.Path.{◌≡◌, refl, ap, ◌∙◌}
use mathlib.Core.Bool.{Bool, true, false, cond}
use mathlib.Core.List.{List, [], ◌∷◌, ◌++◌, append-nil}
use Prim.Native.Nat.{ℕ, zero, suc, ◌+◌, ◌*◌, ◌-◌, ◌/◌, ◌≤◌, ◌<◌}
use native.Mathlib.Omega.{arith}
use native.Mathlib.Nat.{add-zero, zero-add, suc-add}
use lib.ListN.{length, take, drop, length-drop}
use lib.Seq.{length-take-le}
use Rattle.datom.specs.Fact.{words}
use Rattle.lists.specs.Span.{span}
use Rattle.tables.specs.Rows.{count, row, rows_of, ascending, begins, keep, matching, FirstRow, PastRows, Range}
use Rattle.tables.proofs.Order.{before-begins}
use Rattle.tables.proofs.Table.{flat_rows}

-- numbers of which first m come, and then n
span-add : (s m n : ℕ) → span s (m + n) ≡ span s m ++ span (s + m) n
unfolding span
span-add s zero n = simp (zero-add, add-zero)
span-add s (suc m) n =
    let e : s + 1 + m ≡ s + suc m = omega arith in
    rw (suc-add, ← e) (ap (λ (l : List ℕ). s ∷ l) (span-add (s + 1) m n))

module _ (p : ℕ → Bool) where
  keep_append : (xs ys : List ℕ) → keep p (xs ++ ys) ≡ keep p xs ++ keep p ys
  unfolding keep
  keep_append [] ys = refl
  keep_append (x ∷ xs) ys = go (p x) (keep_append xs ys)
    where
      go : (b : Bool) → keep p (xs ++ ys) ≡ keep p xs ++ keep p ys
          → cond b (x ∷ keep p (xs ++ ys)) (keep p (xs ++ ys)) ≡ cond b (x ∷ keep p xs) (keep p xs) ++ keep p ys
      go true h = ap (λ (l : List ℕ). x ∷ l) h
      go false h = h

  keep_all : (s n : ℕ) → ((k : ℕ) → s ≤ k → k < s + n → p k ≡ true) → keep p (span s n) ≡ span s n
  unfolding keep span
  keep_all s zero h = refl
  keep_all s (suc n) h = rw (h s (omega arith) (omega arith), keep_all (s + 1) n (λ k l g. h k (omega arith) (omega arith)))

  keep-none : (s n : ℕ) → ((k : ℕ) → s ≤ k → k < s + n → p k ≡ false) → keep p (span s n) ≡ []
  unfolding keep span
  keep-none s zero h = refl
  keep-none s (suc n) h = rw (h s (omega arith) (omega arith)) (keep-none (s + 1) n (λ k l g. h k (omega arith) (omega arith)))

  -- of n numbers those from low on, below high, are kept
  keep-window : (n low high : ℕ) → low ≤ high → high ≤ n → ((k : ℕ) → k < low → p k ≡ false) → ((k : ℕ) → low ≤ k → k < high → p k ≡ true)
      → ((k : ℕ) → high ≤ k → k < n → p k ≡ false) → keep p (span 0 n) ≡ span low (high - low)
  keep-window n low high l m a b c =
      let e : n ≡ low + ((high - low) + (n - high)) = omega arith in
      let g : low + (high - low) ≡ high = omega arith in
      ap (λ (k : ℕ). keep p (span 0 k)) e ∙
      rw (
        span-add 0 low ((high - low) + (n - high)),
        keep_append,
        keep-none 0 low (λ k _ h. a k (omega arith)),
        zero-add,
        span-add low (high - low) (n - high),
        keep_append,
        g,
        keep-none high (n - high) (λ k f h. c k f (omega arith)),
        append-nil,
      )
      (keep_all low (high - low) (λ k f h. b k f (omega arith)))

module _ (t ks : List ℕ) (low high : ℕ) (first : FirstRow t ks low) (last : PastRows t ks low high) (asc : ascending (rows_of t) ≡ true) where
  -- the numbers of the rows that begin with a key
  pub bounds-match : matching t ks ≡ span low (high - low)
  unfolding matching
  bounds-match =
      keep-window (λ i. begins (row t i) ks) (count t) low high last.at_least last.within
      (λ k h. before-begins (row t k) ks (first.below asc k h))
      (λ k g h. last.begin asc k g h)
      (λ k g h. last.past asc k g h)

-- and their words, the part of the table between the bounds
pub range-found : (t ks : List ℕ) (low high : ℕ) → FirstRow t ks low → PastRows t ks low high
    → Range t ks (take (words * high - words * low) (drop (words * low) t)) low
range-found t ks low high first last =
    let r : List ℕ = take (words * high - words * low) (drop (words * low) t) in
    let n : length r ≡ words * high - words * low = length-take-le _ (drop (words * low) t) (simp length-drop (omega (arith, last.within))) in
    let many : length r / words ≡ high - low = rw n (omega (arith, last.at_least)) in
    let all : words * (high - low) ≡ words * high - words * low = omega arith in
    record {
      starts = first;
      whole = rw n (omega (arith, last.at_least));
      within = rw many (omega (arith, last.at_least, last.within));
      part = rw n refl;
      numbers = λ asc. rw many (bounds-match t ks low high first last asc);
      rows = λ asc. rw (bounds-match t ks low high first last asc, flat_rows t low (high - low), all) refl;
    }
