-- A row and a key of the first n of three words, compared word by word: the first words that differ decide, or that the key has no more. One law for
-- each end of the comparison, of any test that goes so.
use mathlib.Core.Path.{◌≡◌, refl, sym, ap, ◌∙◌}
use mathlib.Core.Bool.{Bool, true, false, or-false}
use mathlib.Core.List.{List, [], ◌∷◌}
use Prim.Native.Nat.{ℕ, zero, suc, ◌+◌, ◌*◌, ◌≤◌, ◌<◌}
use native.Mathlib.Omega.{arith}
use lib.ListN.{get_or, take, drop}
use lib.Seq.{take-nil}
use lib.Dec.{ltb, eqb}
use borrow.Author.Tests.{le-ltb, eqb-true, eqb-false, eq-eqb, ne_eqb}
use Rattle.datom.specs.Fact.{words}
use Rattle.tables.specs.Rows.{count, row, key, before, begins}
use Rattle.tables.proofs.Table.{row_words}

-- a test of a row and a key that goes word by word: words that differ decide by themselves, after equal words those after them do, and where
-- the key has no more it is as of a word beside itself
pub record WordByWord (test : List ℕ → List ℕ → Bool) (one : ℕ → ℕ → Bool) (end : Bool) : Type 0 where
  pub none : (xs : List ℕ) → test xs [] ≡ end
  pub self : (k : ℕ) → one k k ≡ end
  pub apart : (x k : ℕ) (xs ks : List ℕ) → (x ≡ k → ⊥) → test (x ∷ xs) (k ∷ ks) ≡ one x k
  pub same : (x k : ℕ) (xs ks : List ℕ) → x ≡ k → test (x ∷ xs) (k ∷ ks) ≡ test xs ks

pub before-words : WordByWord before ltb false
unfolding before
before-words = record {
  none = nothing;
  self = λ k. le-ltb k k (omega arith);
  apart = λ x k xs ks d. simp (ne_eqb x k d, or-false);
  same = λ x k xs ks e. let l : k ≤ x = omega arith in simp (le-ltb x k l, eq-eqb x k e);
}
  where
    nothing : (xs : List ℕ) → before xs [] ≡ false
    nothing [] = refl
    nothing (x ∷ xs) = refl

pub begins-words : WordByWord begins eqb true
unfolding begins
begins-words = record {
  none = λ xs. refl;
  self = λ k. eq-eqb k k refl;
  apart = λ x k xs ks d. simp (ne_eqb x k d);
  same = λ x k xs ks e. simp (eq-eqb x k e);
}

module _ {test : List ℕ → List ℕ → Bool} {one : ℕ → ℕ → Bool} {end : Bool} (w : WordByWord test one end) where
  -- the last word that is compared
  last : (x k : ℕ) (xs : List ℕ) → test (x ∷ xs) (k ∷ []) ≡ one x k
  last x k xs = go (eqb x k) refl
    where
      go : (b : Bool) → eqb x k ≡ b → test (x ∷ xs) (k ∷ []) ≡ one x k
      go true q = let e = eqb-true x k q in w.same x k xs [] e ∙ w.none xs ∙ sym (w.self k) ∙ ap (λ (m : ℕ). one m k) (sym e)
      go false q = w.apart x k xs [] (eqb-false x k q)

  module _ (t : List ℕ) (i : ℕ) (h : i < count t) (a b c : ℕ) where
    abbrev x : ℕ
    x = get_or t (words * i) 0

    abbrev y : ℕ
    y = get_or t (words * i + 1) 0

    abbrev z : ℕ
    z = get_or t (words * i + 2) 0

    -- the row begins with its three words
    begun : (ks : List ℕ) → test (row t i) ks ≡ test (x ∷ y ∷ z ∷ drop 3 (row t i)) ks
    begun ks = ap (λ (l : List ℕ). test l ks) (row_words t i h)

    pub key-0 : (n : ℕ) → n ≡ 0 → test (row t i) (key n a b c) ≡ end
    key-0 n e = rw e (w.none (row t i))

    pub first-apart : (n : ℕ) → (n ≡ 0 → ⊥) → (x ≡ a → ⊥) → test (row t i) (key n a b c) ≡ one x a
    first-apart zero m d = absurd (m refl)
    first-apart (suc n) m d = begun _ ∙ w.apart x a _ _ d

    -- the key has one word
    pub first_last : (n : ℕ) → n ≡ 1 → test (row t i) (key n a b c) ≡ one x a
    first_last n e = rw e (begun _ ∙ last x a _)

    -- the first words agree
    past_first : (n : ℕ) → x ≡ a → test (row t i) (key (suc n) a b c) ≡ test (y ∷ z ∷ drop 3 (row t i)) (take n (b ∷ c ∷ []))
    past_first n e = begun _ ∙ w.same x a _ _ e

    pub key-1 : (n : ℕ) → n ≡ 1 → x ≡ a → test (row t i) (key n a b c) ≡ end
    key-1 n m e = rw m (past_first 0 e ∙ w.none _)

    pub second-last : (n : ℕ) → n ≡ 2 → x ≡ a → test (row t i) (key n a b c) ≡ one y b
    second-last n m e = rw m (past_first 1 e ∙ last y b _)

    pub second-apart : (n : ℕ) → (n ≡ 0 → ⊥) → (n ≡ 1 → ⊥) → x ≡ a → (y ≡ b → ⊥) → test (row t i) (key n a b c) ≡ one y b
    second-apart zero m o e d = absurd (m refl)
    second-apart (suc zero) m o e d = absurd (o refl)
    second-apart (suc (suc n)) m o e d = past_first (suc n) e ∙ w.apart y b _ _ d

    -- and the second
    past-second : (n : ℕ) → x ≡ a → y ≡ b → test (row t i) (key (suc (suc n)) a b c) ≡ test (z ∷ drop 3 (row t i)) (take n (c ∷ []))
    past-second n e f = past_first (suc n) e ∙ w.same y b _ _ f

    pub key-2 : (n : ℕ) → n ≡ 2 → x ≡ a → y ≡ b → test (row t i) (key n a b c) ≡ end
    key-2 n m e f = rw m (past-second 0 e f ∙ w.none _)

    -- the third decides
    pub third : (n : ℕ) → (n ≡ 0 → ⊥) → (n ≡ 1 → ⊥) → (n ≡ 2 → ⊥) → x ≡ a → y ≡ b → test (row t i) (key n a b c) ≡ one z c
    third zero m o p e f = absurd (m refl)
    third (suc zero) m o p e f = absurd (o refl)
    third (suc (suc zero)) m o p e f = absurd (p refl)
    third (suc (suc (suc n))) m o p e f = past-second (suc n) e f ∙ ap (test (z ∷ drop 3 (row t i))) (nil n) ∙ last z c _
      where
        nil : (m : ℕ) → take (suc m) (c ∷ []) ≡ c ∷ []
        nil m = ap (λ (l : List ℕ). c ∷ l) (take-nil {A = ℕ} m)
