-- The order of rows and keys, word by word: the first word that differs decides it.
use mathlib.Core.Path.{◌≡◌, refl, sym, ◌∙◌}
use mathlib.Core.Logic.{◌⊎◌, inl, inr}
use mathlib.Core.Bool.{Bool, true, false, not, ◌&&◌, ◌||◌, false≢true, and-true, and-false, or-false, and-not_self}
use mathlib.Core.List.{List, [], ◌∷◌}
use Prim.Native.Nat.{ℕ, ◌≤◌, ◌<◌}
use native.Mathlib.Omega.{arith}
use lib.ListN.{length}
use lib.Dec.{ltb, eqb}
use borrow.Author.Tests.{ltb-true, ltb-false, lt-ltb, le-ltb, eqb-true, eqb-false, eq-eqb, ne_eqb}
use Rattle.tables.specs.Rows.{before, begins}
use Rattle.tables.specs.Check.{same_row}

-- no test is false and true
pub no-yes : {A : Type 0} {b : Bool} → b ≡ false → b ≡ true → A
no-yes p q = let z : ◌≡◌ {A = Bool} false true = cc in absurd (false≢true z)

-- two tests that hold together hold
pub both : (a b : Bool) → (a && b) ≡ true → (a ≡ true) × (b ≡ true)
both true b e = (refl, e)
both false b e = absurd (false≢true e)

-- of two numbers one is less, or not
pub lt-or-ge : (k i : ℕ) → (k < i) ⊎ (i ≤ k)
lt-or-ge k i = go (ltb k i) refl
  where
    go : (b : Bool) → ltb k i ≡ b → (k < i) ⊎ (i ≤ k)
    go true e = inl (ltb-true k i e)
    go false e = inr (ltb-false k i e)

-- a row passes a key where it comes before it or, with p, begins with it: two orders in one, so that each law is said once
unfoldable pub passes : Bool → List ℕ → List ℕ → Bool
passes p xs ks = before xs ks || (p && begins xs ks)

-- to come before a key is to pass it where passing asks for no more
pub passes-before : (xs ks : List ℕ) → passes false xs ks ≡ before xs ks
unfolding passes
passes-before xs ks = simp or-false

module _ (p : Bool) where
  -- every row begins with the empty key
  pub passes_none : (xs : List ℕ) → passes p xs [] ≡ p
  unfolding passes before begins
  passes_none [] = and-true p
  passes_none (x ∷ xs) = and-true p

  -- a row of no words passes no key that has one
  passes-empty : (k : ℕ) (ks : List ℕ) → passes p [] (k ∷ ks) ≡ false
  unfolding passes before begins
  passes-empty k ks = and-false p

  module _ (x k : ℕ) (xs ks : List ℕ) where
    -- words that differ decide
    pub passes-apart : (x ≡ k → ⊥) → passes p (x ∷ xs) (k ∷ ks) ≡ ltb x k
    unfolding passes before begins
    passes-apart h = simp (ne_eqb x k h, and-false, or-false)

    -- after equal words, those after them do
    pub passes_same : x ≡ k → passes p (x ∷ xs) (k ∷ ks) ≡ passes p xs ks
    unfolding passes before begins
    passes_same e = let l : k ≤ x = omega arith in simp (le-ltb x k l, eq-eqb x k e)

    -- so a row that passes has the smaller word, or an equal one and passes after it
    passes-inv : passes p (x ∷ xs) (k ∷ ks) ≡ true → (x < k) ⊎ ((x ≡ k) × (passes p xs ks ≡ true))
    passes-inv h = go (eqb x k) refl
      where
        go : (b : Bool) → eqb x k ≡ b → (x < k) ⊎ ((x ≡ k) × (passes p xs ks ≡ true))
        go true q = let e = eqb-true x k q in inr (e, sym (passes_same e) ∙ h)
        go false q = inl (ltb-true x k (sym (passes-apart (eqb-false x k q)) ∙ h))

mono-step : (p : Bool) (x y k : ℕ) (xs ys ks : List ℕ) → (passes false xs ys ≡ true → passes p ys ks ≡ true → passes p xs ks ≡ true)
    → (x < y) ⊎ ((x ≡ y) × (passes false xs ys ≡ true)) → (y < k) ⊎ ((y ≡ k) × (passes p ys ks ≡ true)) → passes p (x ∷ xs) (k ∷ ks) ≡ true
mono-step p x y k xs ys ks rest (inr a) (inr b) = passes_same p x k xs ks (omega arith) ∙ rest a.1 b.1
mono-step p x y k xs ys ks rest (inl a) (inl b) = passes-apart p x k xs ks (λ e. omega arith) ∙ lt-ltb x k (omega arith)
mono-step p x y k xs ys ks rest (inl a) (inr b) = passes-apart p x k xs ks (λ e. omega arith) ∙ lt-ltb x k (omega arith)
mono-step p x y k xs ys ks rest (inr a) (inl b) = passes-apart p x k xs ks (λ e. omega arith) ∙ lt-ltb x k (omega arith)

-- a row before one that passes passes
pub passes-mono : (p : Bool) (xs ys ks : List ℕ) → passes false xs ys ≡ true → passes p ys ks ≡ true → passes p xs ks ≡ true
unfolding before
passes-mono p xs ys [] a b = passes_none p xs ∙ sym (passes_none p ys) ∙ b
passes-mono p [] ys (k ∷ ks) a b = no-yes (passes-before [] ys) a
passes-mono p (x ∷ xs) [] (k ∷ ks) a b = no-yes (passes_none false (x ∷ xs)) a
passes-mono p (x ∷ xs) (y ∷ ys) (k ∷ ks) a b =
    mono-step p x y k xs ys ks (passes-mono p xs ys ks) (passes-inv false x y xs ys a) (passes-inv p y k ys ks b)

-- no row comes before itself
pub passes-self : (xs : List ℕ) → passes false xs xs ≡ false
passes-self [] = passes_none false []
passes-self (x ∷ xs) = passes_same false x x xs xs refl ∙ passes-self xs

-- a row begins with a key if it passes the key and does not come before it
pub begins-passes : (xs ks : List ℕ) → begins xs ks ≡ (passes true xs ks && not (passes false xs ks))
unfolding begins
begins-passes xs [] = simp (passes_none true xs, passes_none false xs)
begins-passes [] (k ∷ ks) = simp (passes-empty true k ks)
begins-passes (x ∷ xs) (k ∷ ks) = go (begins-passes xs ks) (eqb x k) refl
  where
    go : begins xs ks ≡ (passes true xs ks && not (passes false xs ks)) → (b : Bool) → eqb x k ≡ b
        → begins (x ∷ xs) (k ∷ ks) ≡ (passes true (x ∷ xs) (k ∷ ks) && not (passes false (x ∷ xs) (k ∷ ks)))
    go rest true q = let e = eqb-true x k q in simp (q, passes_same true x k xs ks e, passes_same false x k xs ks e) rest
    go rest false q = let n = eqb-false x k q in simp (q, passes-apart true x k xs ks n, passes-apart false x k xs ks n, and-not_self)

-- a row is the key if it begins with it and is no longer
pub same-begins : (ks xs : List ℕ) → length xs ≡ length ks → same_row ks xs ≡ begins xs ks
unfolding same_row begins
same-begins [] [] e = refl
same-begins [] (x ∷ xs) e = absurd (omega arith)
same-begins (k ∷ ks) [] e = refl
same-begins (k ∷ ks) (x ∷ xs) e = go (same-begins ks xs (omega arith)) (eqb x k) refl
  where
    go : same_row ks xs ≡ begins xs ks → (b : Bool) → eqb x k ≡ b → (eqb k x && same_row ks xs) ≡ (eqb x k && begins xs ks)
    go rest true q = let s = eqb-true x k q in simp (q, eq-eqb k x (sym s)) rest
    go rest false q = let n = eqb-false x k q in simp (q, ne_eqb k x (λ s. n (sym s)))

-- one that comes before a key does not begin with it
pub before-begins : (xs ks : List ℕ) → before xs ks ≡ true → begins xs ks ≡ false
before-begins xs ks e = begins-passes xs ks ∙ simp (passes-before xs ks, e, and-false)

-- a row that does not come before a key, and stands before one that begins with it, begins with it too
pub begins-mono : (xs ys ks : List ℕ) → before xs ys ≡ true → before xs ks ≡ false → begins ys ks ≡ true → begins xs ks ≡ true
begins-mono xs ys ks a b c =
    let passed : passes true ys ks ≡ true = (both (passes true ys ks) (not (passes false ys ks)) (sym (begins-passes ys ks) ∙ c)).0 in
    begins-passes xs ks ∙ simp (passes-mono true xs ys ks (passes-before xs ys ∙ a) passed, passes-before xs ks, b)
