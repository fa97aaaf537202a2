-- The search by halves in a table whose rows ascend, for where a test that falls has fallen: below the answer all rows pass it, from it on none does.
use mathlib.Core.Path.{◌≡◌, refl, sym, ◌∙◌}
use mathlib.Core.Logic.{⊎_elim}
use mathlib.Core.Bool.{Bool, true, false}
use mathlib.Core.List.{List, map}
use Prim.Native.Nat.{ℕ, zero, suc, ◌+◌, ◌≤◌, ◌<◌}
use native.Mathlib.Omega.{arith}
use native.Mathlib.Numerals.{add-one}
use native.Mathlib.Nat.{eq-or-lt_of_le, le_of_suc-le-suc}
use Rattle.lists.specs.Span.{span}
use Rattle.tables.specs.Rows.{count, row, rows_of, before, ascending, begins, FirstRow, PastRows}
use Rattle.tables.proofs.Order.{passes, no-yes, both, passes-before, passes-mono, begins-mono}

-- of ascending rows each comes before the next
neighbours : (f : ℕ → List ℕ) (s n i : ℕ) → ascending (map f (span s n)) ≡ true → s ≤ i → i + 1 < s + n → passes false (f i) (f (i + 1)) ≡ true
unfolding ascending span
neighbours f s zero i e l h = absurd (omega arith)
neighbours f s (suc zero) i e l h = absurd (omega arith)
neighbours f s (suc (suc n)) i e l h =
    let b = both (before (f s) (f (s + 1))) (ascending (map f (span (s + 1) (suc n)))) e in
    ⊎_elim (λ (q : s ≡ i). rw (passes-before, ← q) b.0)
    (λ (q : s < i). neighbours f (s + 1) (suc n) i b.1 (omega arith) (omega arith))
    (eq-or-lt_of_le l)

module _ (t : List ℕ) (asc : ascending (rows_of t) ≡ true) where
  -- and so before each later one
  pub earlier : (i j : ℕ) → i < j → j < count t → passes false (row t i) (row t j) ≡ true
  earlier i zero l h = absurd (omega arith)
  earlier i (suc j) l h =
      let next : passes false (row t j) (row t (suc j)) ≡ true = rw add-one at (neighbours (row t) 0 (count t) j asc (omega arith) (omega arith)) in
      ⊎_elim (λ (q : i ≡ j). rw q next)
      (λ (q : i < j). passes-mono false (row t i) (row t j) (row t (suc j)) (earlier i j q (omega arith)) next)
      (eq-or-lt_of_le (le_of_suc-le-suc l))

  -- the rows that come before a key stand below those that do not
  pub before_falls : (ks : List ℕ) (j k : ℕ) → j ≤ k → k < count t → before (row t k) ks ≡ true → before (row t j) ks ≡ true
  before_falls ks j k l h e =
      ⊎_elim (λ (q : j ≡ k). rw q e)
      (λ (q : j < k). sym (passes-before (row t j) ks) ∙ passes-mono false (row t j) (row t k) ks (earlier j k q h) (passes-before (row t k) ks ∙ e))
      (eq-or-lt_of_le l)

  -- and of the rows that do not come before it those that begin with it stand below those that do not
  pub begins-falls : (ks : List ℕ) (j k : ℕ) → before (row t j) ks ≡ false → j ≤ k → k < count t → begins (row t k) ks ≡ true → begins (row t j) ks ≡ true
  begins-falls ks j k low l h e =
      ⊎_elim (λ (q : j ≡ k). rw q e)
      (λ (q : j < k). begins-mono (row t j) (row t k) ks (sym (passes-before (row t j) (row t k)) ∙ earlier j k q h) low e)
      (eq-or-lt_of_le l)

-- the search by halves, from number i on below n, for where a test that falls has fallen: the answer is from low to high. Q is what is asked
-- of the table
pub record Between (Q : Type 0) (test : ℕ → Bool) (i n low high : ℕ) : Type 0 where
  pub at_least : i ≤ low
  pub low_most : low ≤ n
  pub high_most : high ≤ n
  pub passed : Q → (k : ℕ) → i ≤ k → k < low → test k ≡ true
  pub stopped : Q → (k : ℕ) → high ≤ k → k < n → test k ≡ false

pub between_start : (Q : Type 0) (test : ℕ → Bool) (i n : ℕ) → i ≤ n → Between Q test i n i n
between_start Q test i n l = record {
  at_least = omega arith;
  low_most = l;
  high_most = omega arith;
  passed = λ _ k g h. absurd (omega arith);
  stopped = λ _ k g h. absurd (omega arith);
}

module _ {Q : Type 0} {test : ℕ → Bool} {i n low high : ℕ} (falls : Q → (j k : ℕ) → i ≤ j → j ≤ k → k < n → test k ≡ true → test j ≡ true)
    (b : Between Q test i n low high) (m : ℕ) (l : low ≤ m) (h : m < high) where
  pub between-up : test m ≡ true → Between Q test i n (m + 1) high
  between-up e = record {
    at_least = omega (arith, b.at_least);
    low_most = omega (arith, b.high_most);
    high_most = b.high_most;
    passed = λ q k g f. falls q k m g (omega arith) (omega (arith, b.high_most)) e;
    stopped = b.stopped;
  }

  pub between-down : test m ≡ false → Between Q test i n low m
  between-down e = record {
    at_least = b.at_least;
    low_most = b.low_most;
    high_most = omega (arith, b.high_most);
    passed = b.passed;
    stopped = λ q k g f. go q k g f (test k) refl;
  }
    where
      go : Q → (k : ℕ) → m ≤ k → k < n → (t : Bool) → test k ≡ t → test k ≡ false
      go q k g f false s = s
      go q k g f true s = no-yes e (falls q m k (omega (arith, b.at_least)) g f s)

-- the searches for the first row that does not come before a key, and for the first past those that begin with it
abbrev pub Firsts : List ℕ → List ℕ → ℕ → ℕ → Type 0
Firsts t ks low high = Between (ascending (rows_of t) ≡ true) (λ k. before (row t k) ks) 0 (count t) low high

abbrev pub Pasts : List ℕ → List ℕ → ℕ → ℕ → ℕ → Type 0
Pasts t ks i low high = Between (ascending (rows_of t) ≡ true) (λ k. begins (row t k) ks) i (count t) low high

module _ {t ks : List ℕ} where
  pub first_found : {low high : ℕ} → Firsts t ks low high → high ≤ low → FirstRow t ks low
  first_found b l = record {
    within = b.low_most;
    below = λ asc k h. b.passed asc k (omega arith) h;
    not_before = λ asc k g h. b.stopped asc k (omega arith) h;
  }

  pub past-found : {i low high : ℕ} → Pasts t ks i low high → high ≤ low → PastRows t ks i low
  past-found b l = record {
    at_least = b.at_least;
    within = b.low_most;
    begin = b.passed;
    past = λ asc k g h. b.stopped asc k (omega arith) h;
  }

  -- no row from the first that does not come before the key on does
  pub past-falls : {i : ℕ} → FirstRow t ks i → ascending (rows_of t) ≡ true → (j k : ℕ) → i ≤ j → j ≤ k → k < count t → begins (row t k) ks ≡ true
      → begins (row t j) ks ≡ true
  past-falls f asc j k g l h e = begins-falls t asc ks j k (f.not_before asc j g (omega arith)) l h e
