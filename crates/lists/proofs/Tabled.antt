-- An array that is filled from the front with f 0, f 1 and so on.
use mathlib.Core.Path.{◌≡◌, refl, sym, ap, ◌∙◌}
use Prim.Native.Nat.{ℕ, zero, suc, ◌+◌, ◌<◌, ◌≤◌}
use mathlib.Core.List.{List, [], ◌∷◌, ◌++◌}
use mathlib.Core.Bool.{Bool, true, false}
use native.Mathlib.Numerals.{add-one}
use native.Mathlib.Omega.{arith}
use native.Mathlib.Nat.{not-suc-le-zero}
use borrow.Author.Tests.{ltb-true, ltb-false}
use lib.ListN.{length, get_or, set, take, replicate, length-append, get_or-append}
use lib.Seq.{take-suc, take-suc-set, take_all, get_or-append-add}
use lib.Dec.{ltb}
use Rattle.lists.specs.Padded.{padded}
use Rattle.lists.specs.Tabled.{tabled}
use Rattle.lists.proofs.Padded.{padded-more, padded-none}

module _ {A : Type 0} (f : ℕ → A) where
  pub tabled-none : [] ≡ tabled f 0
  unfolding tabled
  tabled-none = refl

  -- one element more
  pub tabled-more : (l : List A) (i : ℕ) (v : A) → i < length l → v ≡ f i → take i l ≡ tabled f i → take (i + 1) (set l i v) ≡ tabled f (i + 1)
  unfolding tabled
  tabled-more l i v h e done = rw (add-one, take-suc-set l i v h, done, e)

  -- and all
  pub tabled-all : (l : List A) (i n : ℕ) → length l ≡ n → i ≡ n → take i l ≡ tabled f i → l ≡ tabled f n
  tabled-all l i n h e done = sym (take_all n l (omega arith)) ∙ rw (← e) done

  pub tabled-length : (n : ℕ) → length (tabled f n) ≡ n
  unfolding tabled
  tabled-length zero = refl
  tabled-length (suc n) = length-append (tabled f n) _ ∙ rw (tabled-length n) (omega arith)

  -- an element
  pub tabled-at : (n i : ℕ) (d : A) → i < n → get_or (tabled f n) i d ≡ f i
  unfolding tabled
  tabled-at zero i d h = absurd (not-suc-le-zero h)
  tabled-at (suc n) i d h = go (ltb i n) refl (tabled-at n i d)
    where
      go : (t : Bool) → ltb i n ≡ t → (i < n → get_or (tabled f n) i d ≡ f i) → get_or (tabled f n ++ (f n ∷ [])) i d ≡ f i
      go true e before =
          let m : i < n = ltb-true _ _ e in
          get_or-append (tabled f n) (f n ∷ []) d i (rw (tabled-length n) m) ∙ before m
      go false e before =
          let m : n ≤ i = ltb-false _ _ e in
          let last : i ≡ length (tabled f n) + 0 = rw (tabled-length n) (omega arith) in
          let this : n ≡ i = omega arith in
          ap (λ (j : ℕ). get_or (tabled f n ++ (f n ∷ [])) j d) last ∙ get_or-append-add (tabled f n) (f n ∷ []) 0 d ∙ ap f this

  -- the same with others behind
  pub tabled-padded-none : (z : A) (n : ℕ) → replicate n z ≡ padded z n (tabled f 0)
  unfolding tabled
  tabled-padded-none z n = sym (padded-none z n)

  pub tabled-padded-more : (z : A) (n i : ℕ) (x : A) (items : List A) → i < n → items ≡ padded z n (tabled f i) → x ≡ f i
      → set items i x ≡ padded z n (tabled f (i + 1))
  unfolding tabled
  tabled-padded-more z n i x items h e k =
      let l = tabled-length i in
      let m : set (padded z n (tabled f i)) (length (tabled f i)) (f i) ≡ padded z n (tabled f i ++ (f i ∷ [])) = padded-more z n (tabled f i) (f i) (omega arith) in
      rw (e, k, add-one) (rw l at m)

-- a table of a list's elements is the list
tabled-take : {A : Type 0} (f : ℕ → A) (l : List A) (d : A) → ((i : ℕ) → i < length l → f i ≡ get_or l i d) → (m : ℕ) → m ≤ length l → tabled f m ≡ take m l
unfolding tabled
tabled-take f l d e zero h = refl
tabled-take f l d e (suc m) h = rw (tabled-take f l d e m (omega arith), e m h) (sym (take-suc l m d h))

pub tabled-same : {A : Type 0} (f : ℕ → A) (l : List A) (d : A) (n : ℕ) → length l ≡ n → ((i : ℕ) → i < n → f i ≡ get_or l i d) → tabled f n ≡ l
tabled-same f l d n long e =
    let same : (i : ℕ) → i < length l → f i ≡ get_or l i d = λ i h. e i (omega (arith, long)) in
    tabled-take f l d same n (omega (arith, long)) ∙ take_all n l (omega (arith, long))
