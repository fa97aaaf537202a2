-- Two tables of the same facts, one of them aevt: what the check asks of one of them holds of both, by the pigeonhole.
use mathlib.Core.Path.{◌≡◌, refl, sym, ap, ◌∙◌}
use mathlib.Core.Logic.{⊎_elim}
use mathlib.Core.Bool.{Bool, true, false, false≢true}
use mathlib.Core.List.{List, map}
use Prim.Native.Nat.{ℕ, zero, suc, ◌+◌, ◌≤◌, ◌<◌}
use native.Mathlib.Omega.{arith}
use native.Mathlib.Nat.{eq-or-lt_of_le}
use lib.ListN.{length, length-map}
use Rattle.datom.specs.Fact.{Fact, aevt_row}
use Rattle.lists.specs.Span.{span}
use Rattle.tables.specs.Rows.{count, row, rows_of, ascending, fact_of}
use Rattle.tables.specs.Check.{same_row, is_among}
use Rattle.tables.specs.Passed.{Once}
use Rattle.tables.proofs.Order.{no-yes, lt-or-ge, passes-self}
use Rattle.tables.proofs.Table.{row-key, among-at, among_none}
use Rattle.tables.proofs.Search.{earlier}
use Rattle.tables.proofs.Pigeonhole.{same-equal, equal-same, distinct, Within, few, full}

-- of ascending rows no two are the same
pub ascending-once : (t : List ℕ) → ascending (rows_of t) ≡ true → Once t
ascending-once t asc i j hi hj e =
    ⊎_elim (λ (l : i < j). no-yes (passes-self (row t j)) (rw e at (earlier t asc i j l hj)))
    (λ (l : j ≤ i).
    ⊎_elim (λ (q : j ≡ i). sym q) (λ (q : j < i). no-yes (passes-self (row t j)) (rw e at (earlier t asc j i q hi))) (eq-or-lt_of_le l))
    (lt-or-ge i j)

span-length : (s n : ℕ) → length (span s n) ≡ n
unfolding span
span-length s zero = refl
span-length s (suc n) = ap suc (span-length (s + 1) n)

-- a row stands at a number
pub record At (r : List ℕ) (f : ℕ → List ℕ) (s n : ℕ) : Type 0 where
  pub at : ℕ
  pub from : s ≤ at
  pub below : at < s + n
  pub is : r ≡ f at

module _ (f : ℕ → List ℕ) where
  -- what is among rows stands at a number
  pub among-where : (r : List ℕ) (s n : ℕ) → is_among r (map f (span s n)) ≡ true → At r f s n
  unfolding is_among span
  among-where r s zero h = absurd (false≢true h)
  among-where r s (suc n) h = go (same_row r (f s)) refl (among-where r (s + 1) n)
    where
      go : (b : Bool) → same_row r (f s) ≡ b → (is_among r (map f (span (s + 1) n)) ≡ true → At r f (s + 1) n) → At r f s (suc n)
      go true e rest = record { at = s; from = omega arith; below = omega arith; is = same-equal r (f s) e }
      go false e rest =
          let a = rest (rw e at h) in
          record { at = a.at; from = omega arith; below = omega arith; is = a.is }

  -- rows of which no two are the same are distinct
  all-distinct : (s n : ℕ) → ((i j : ℕ) → s ≤ i → i < j → j < s + n → f i ≡ f j → ⊥) → distinct (map f (span s n)) ≡ true
  unfolding distinct span
  all-distinct s zero h = refl
  all-distinct s (suc n) h =
      simp (among_none (f s) f (s + 1) n differ, all-distinct (s + 1) n (λ i j l g k. h i j (omega arith) g (omega arith)))
    where
      differ : (j : ℕ) → s + 1 ≤ j → j < s + 1 + n → same_row (f s) (f j) ≡ false
      differ j l g = go (same_row (f s) (f j)) refl
        where
          go : (b : Bool) → same_row (f s) (f j) ≡ b → same_row (f s) (f j) ≡ false
          go false e = e
          go true e = absurd (h s j (omega arith) (omega arith) (omega arith) (same-equal (f s) (f j) e))

-- two tests that follow from each other are one
iff : (a b : Bool) → (a ≡ true → b ≡ true) → (b ≡ true → a ≡ true) → a ≡ b
iff true b p q = sym (p refl)
iff false false p q = refl
iff false true p q = q refl

-- a row of aevt is that of the fact it holds
pub row-fact : (t : List ℕ) (i : ℕ) → i < count t → aevt_row (fact_of (row t i)) ≡ row t i
row-fact t i h = rw (row-key t i h)

-- the row that g makes of the fact of row i of aevt
abbrev image : List ℕ → (Fact → List ℕ) → ℕ → List ℕ
image ae g i = g (fact_of (row ae i))

abbrev images : List ℕ → (Fact → List ℕ) → List (List ℕ)
images ae g = map (image ae g) (span 0 (count ae))

module _ (ae : List ℕ) (g : Fact → List ℕ) (one-to-one : (f h : Fact) → g f ≡ g h → aevt_row f ≡ aevt_row h) (asc : ascending (rows_of ae) ≡ true) where
  images-distinct : distinct (images ae g) ≡ true
  images-distinct =
      all-distinct (image ae g) 0 (count ae)
      (λ i j _ l h e.
      let same : row ae i ≡ row ae j =
      sym (row-fact ae i (omega arith)) ∙ one-to-one (fact_of (row ae i)) (fact_of (row ae j)) e ∙ row-fact ae j (omega arith) in
      let q = ascending-once ae asc i j (omega arith) (omega arith) same in
      omega arith)

  among-images : (f : Fact) → is_among (g f) (images ae g) ≡ true → is_among (aevt_row f) (rows_of ae) ≡ true
  among-images f h =
      let a = among-where (image ae g) (g f) 0 (count ae) h in
      let e : aevt_row f ≡ row ae a.at = one-to-one f (fact_of (row ae a.at)) a.is ∙ row-fact ae a.at (omega arith) in
      among-at (aevt_row f) (row ae) 0 (count ae) a.at (omega arith) (omega arith) (equal-same (aevt_row f) (row ae a.at) e)

  module _ (t : List ℕ) (all : (i : ℕ) → i < count ae → is_among (g (fact_of (row ae i))) (rows_of t) ≡ true) where
    images-within : Within (images ae g) (rows_of t)
    images-within z h = let a = among-where (image ae g) z 0 (count ae) h in rw a.is (all a.at (omega arith))

    -- where the facts of aevt are all in a table, it has no fewer rows
    pub no-fewer : count ae ≤ count t
    no-fewer =
        let l = few (images ae g) (rows_of t) images-distinct images-within in
        omega (arith, simp (length-map, span-length) at l)

    -- and if it has no more, its facts are those of aevt
    pub same-facts : count t ≤ count ae → (f : Fact) → is_among (aevt_row f) (rows_of ae) ≡ is_among (g f) (rows_of t)
    same-facts l f =
        iff (is_among (aevt_row f) (rows_of ae)) (is_among (g f) (rows_of t))
        (λ h. let a = among-where (row ae) (aevt_row f) 0 (count ae) h in rw (← a.is) at (all a.at (omega arith)))
        (λ h. among-images f (full (images ae g) (rows_of t) images-distinct images-within (simp (length-map, span-length) l) (g f) h))

  module _ (t : List ℕ) (same : (f : Fact) → is_among (aevt_row f) (rows_of ae) ≡ is_among (g f) (rows_of t)) where
    -- conversely, where the facts of a table are those of aevt, each fact of aevt is in it
    pub all_in : (i : ℕ) → i < count ae → is_among (g (fact_of (row ae i))) (rows_of t) ≡ true
    all_in i h =
        sym (same (fact_of (row ae i))) ∙
        among-at (aevt_row (fact_of (row ae i))) (row ae) 0 (count ae) i (omega arith) (omega arith)
        (equal-same (aevt_row (fact_of (row ae i))) (row ae i) (row-fact ae i h))

    -- and it has no more rows
    pub no_more : ascending (rows_of t) ≡ true → (fact : List ℕ → Fact)
        → ((i : ℕ) → i < count t → g (fact (row t i)) ≡ row t i) → count t ≤ count ae
    no_more asct fact made =
        let l = few (rows_of t) (images ae g) rows-distinct rows-within in
        omega (arith, simp (length-map, span-length) at l)
      where
        rows-distinct : distinct (rows_of t) ≡ true
        rows-distinct =
            all-distinct (row t) 0 (count t)
            (λ i j _ l h e. let q = ascending-once t asct i j (omega arith) (omega arith) e in omega arith)

        rows-within : Within (rows_of t) (images ae g)
        rows-within z h =
            let j = among-where (row t) z 0 (count t) h in
            let f = fact (row t j.at) in
            let e : z ≡ g f = j.is ∙ sym (made j.at (omega arith)) in
            let i = among-where (row ae) (aevt_row f) 0 (count ae) (same f ∙ rw e at h) in
            let q : g f ≡ image ae g i.at = ap (λ (r : List ℕ). g (fact_of r)) i.is in
            among-at z (image ae g) 0 (count ae) i.at (omega arith) (omega arith) (equal-same z (image ae g i.at) (e ∙ q))
