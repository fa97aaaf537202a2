-- What an order of the statements leaves as it is: the number of constants, and which variables are named. Each is a sum over the statements,
-- and a sum does not see the order.
use mathlib.Core.Path.{◌≡◌, refl, sym, ap, ◌∙◌}
use Prim.Native.Nat.{ℕ, zero, suc, ◌+◌, ◌≤◌, ◌<◌}
use native.Mathlib.Nat.{not-suc-le-zero, le_of_suc-le-suc, zero-add}
use native.Mathlib.Omega.{arith}
use native.Mathlib.Decide.{ℕ_discrete}
use borrow.Author.Tests.{eq-eqb, ne_eqb, lt-ltb, ltb-true, ltb-false}
use mathlib.Core.List.{List, [], ◌∷◌, ◌++◌}
use mathlib.Core.Bool.{Bool, true, false, not, ◌||◌}
use lib.ListN.{length, get_or, length-append, length-map}
use lib.Seq.{ext_get_or}
use lib.Dec.{ltb}
use Rattle.lists.specs.Span.{span}
use Rattle.lists.proofs.Span.{length-span, get_or-span}
use Rattle.std.specs.Prelude.{Ok}
use Rattle.refusal.proofs.First.{each-passes, first-agree}
use Rattle.orders.specs.Lists.{up_to, one, times, OrderOf}
use Rattle.orders.proofs.Lists.{times-append}
use Rattle.query.specs.declared.Statement.{Statement}
use Rattle.query.specs.Query.{names, named, zero_statement}
use Rattle.query_check.specs.Refusals.{constants_in, constants, statements_fault, unused_fault}
use Rattle.search.specs.Search.{arranged}

unfoldable pub sum : (ℕ → ℕ) → List ℕ → ℕ
sum f [] = 0
sum f (x ∷ xs) = f x + sum f xs

sum-append : (f : ℕ → ℕ) (x y : List ℕ) → sum f (x ++ y) ≡ sum f x + sum f y
unfolding sum
sum-append f [] y = omega arith
sum-append f (a ∷ x) y = omega (arith, sum-append f x y)

-- a number that stands in a list parts it
parted : (a : ℕ) (y : List ℕ) → 1 ≤ times a y → (u : List ℕ) × (w : List ℕ) × (y ≡ u ++ (a ∷ w))
unfolding times
parted a [] h = absurd (not-suc-le-zero h)
parted a (b ∷ y) h = go (ℕ_discrete a b) (parted a y)
  where
    go : Dec (a ≡ b) → (1 ≤ times a y → (u : List ℕ) × (w : List ℕ) × (y ≡ u ++ (a ∷ w))) → (u : List ℕ) × (w : List ℕ) × (b ∷ y ≡ u ++ (a ∷ w))
    go (yes e) r = ([], y, ap (λ (x : ℕ). x ∷ y) (sym e))
    go (no n) r =
        let p = r (omega (arith, h, ap one (ne_eqb a b n))) in
        (b ∷ p.0, p.1, ap (λ (l : List ℕ). b ∷ l) p.2)

pub sum-order : (f : ℕ → ℕ) (x y : List ℕ) → OrderOf x y → sum f x ≡ sum f y
unfolding sum times
sum-order f [] [] o = refl
sum-order f [] (b ∷ y) o = absurd (let z : suc (length y) ≡ 0 = o.long in omega arith)
sum-order f (a ∷ x) y o = go (parted a y (omega (arith, o.each a, ap one (eq-eqb a a refl)))) (sum-order f x)
  where
    go : (u : List ℕ) × (w : List ℕ) × (y ≡ u ++ (a ∷ w)) → ((z : List ℕ) → OrderOf x z → sum f x ≡ sum f z) → f a + sum f x ≡ sum f y
    go (u, w, e) r =
        let long : length (u ++ w) ≡ length x =
        omega (arith, length-append u w, length-append u (a ∷ w), ap length e, o.long) in
        let each : (v : ℕ) → times v (u ++ w) ≡ times v x =
        λ v. omega (arith, times-append v u w, times-append v u (a ∷ w), ap (times v) e, o.each v) in
        let s = r (u ++ w) (record { long = long; each = each }) in
        omega (arith, s, sum-append f u w, sum-append f u (a ∷ w), ap (sum f) e)

-- the statements in their own order
get_or-arranged : (ss : List Statement) (o : List ℕ) (i : ℕ) → i < length o → get_or (arranged ss o) i zero_statement ≡ get_or ss (get_or o i 0) zero_statement
get_or-arranged ss [] i h = absurd (not-suc-le-zero h)
get_or-arranged ss (x ∷ o) zero h = refl
get_or-arranged ss (x ∷ o) (suc i) h = get_or-arranged ss o i (le_of_suc-le-suc h)

pub arranged-all : (ss : List Statement) → arranged ss (up_to (length ss)) ≡ ss
arranged-all ss =
    ext_get_or zero_statement (arranged ss (up_to (length ss))) ss long
    (λ i h. let q : i < length (up_to (length ss)) = omega (arith, length-map (up_to (length ss)) (λ j. get_or ss j zero_statement)) in
    get_or-arranged ss (up_to (length ss)) i q ∙
    ap (λ (k : ℕ). get_or ss k zero_statement) (get_or-span 0 (length ss) i (omega (arith, long)) ∙ zero-add i))
  where
    long : length (arranged ss (up_to (length ss))) ≡ length ss
    long = length-map (up_to (length ss)) (λ j. get_or ss j zero_statement) ∙ length-span 0 (length ss)

-- constants and names are sums
constants-sum : (ss : List Statement) (o : List ℕ) → constants (arranged ss o) ≡ sum (λ i. constants_in (get_or ss i zero_statement).value) o
unfolding constants sum
constants-sum ss [] = refl
constants-sum ss (x ∷ o) = ap (λ (n : ℕ). constants_in (get_or ss x zero_statement).value + n) (constants-sum ss o)

or-positive : (a : Bool) (n : ℕ) → (a || ltb 0 n) ≡ ltb 0 (one a + n)
or-positive true n = sym (lt-ltb 0 (1 + n) (omega arith))
or-positive false n = ap (ltb 0) (sym (zero-add n))

named-sum : (ss : List Statement) (v : ℕ) (o : List ℕ) → named (arranged ss o) v ≡ ltb 0 (sum (λ i. one (names (get_or ss i zero_statement) v)) o)
unfolding named sum
named-sum ss v [] = refl
named-sum ss v (x ∷ o) = rw (named-sum ss v o) (or-positive (names (get_or ss x zero_statement) v) (sum (λ i. one (names (get_or ss i zero_statement) v)) o))

-- so is the number of statements that a test is true of
unfoldable pub many : (Statement → Bool) → List Statement → ℕ
many f [] = 0
many f (s ∷ ss) = one (f s) + many f ss

many-sum : (f : Statement → Bool) (ss : List Statement) (o : List ℕ) → many f (arranged ss o) ≡ sum (λ i. one (f (get_or ss i zero_statement))) o
unfolding many sum
many-sum f ss [] = refl
many-sum f ss (x ∷ o) = ap (λ (n : ℕ). one (f (get_or ss x zero_statement)) + n) (many-sum f ss o)

pub many-order : (f : Statement → Bool) (ss : List Statement) (o : List ℕ) → OrderOf (up_to (length ss)) o → many f (arranged ss o) ≡ many f ss
many-order f ss o order =
    many-sum f ss o ∙ sym (sum-order _ (up_to (length ss)) o order) ∙ sym (many-sum f ss (up_to (length ss))) ∙ ap (many f) (arranged-all ss)

-- a number that stands in an order is one of those below
times-at : (o : List ℕ) (i : ℕ) → i < length o → 1 ≤ times (get_or o i 0) o
unfolding times
times-at [] i h = absurd (not-suc-le-zero h)
times-at (x ∷ o) zero h = omega (arith, ap one (eq-eqb x x refl))
times-at (x ∷ o) (suc i) h = omega (arith, times-at o i (le_of_suc-le-suc h))

times-high : (v a m : ℕ) → a + m ≤ v → times v (span a m) ≡ 0
unfolding times span
times-high v a zero h = refl
times-high v a (suc m) h =
    let d : (v ≡ a) → ⊥ = λ e. omega (arith, e) in
    omega (arith, ap one (ne_eqb v a d), times-high v (a + 1) m (omega arith))

pub order_below : (n : ℕ) (o : List ℕ) → OrderOf (up_to n) o → (i : ℕ) → i < length o → get_or o i 0 < n
order_below n o p i h = go (ltb (get_or o i 0) n) refl
  where
    go : (t : Bool) → ltb (get_or o i 0) n ≡ t → get_or o i 0 < n
    go true e = ltb-true _ _ e
    go false e = absurd (omega (arith, times-at o i h, p.each (get_or o i 0), times-high (get_or o i 0) 0 n (omega (arith, ltb-false (get_or o i 0) n e))))

module _ (ss : List Statement) (o : List ℕ) (order : OrderOf (up_to (length ss)) o) where
  pub length-order : length (arranged ss o) ≡ length ss
  length-order = length-map o (λ j. get_or ss j zero_statement) ∙ order.long ∙ length-span 0 (length ss)

  -- 14 asks that no statement is high
  pub statements-order : (n : ℕ) → statements_fault n ss 0 ≡ Ok tt → statements_fault n (arranged ss o) 0 ≡ Ok tt
  unfolding statements_fault
  statements-order n e =
      (each-passes _ _ zero_statement 0 (arranged ss o)).1
      (λ i h.
      let l : i < length o = omega (arith, length-map o (λ j. get_or ss j zero_statement)) in
      rw (get_or-arranged ss o i l) ((each-passes _ _ zero_statement 0 ss).0 e (get_or o i 0) (order_below (length ss) o order i l)))

  pub constants-order : constants (arranged ss o) ≡ constants ss
  constants-order = constants-sum ss o ∙ sym (sum-order _ (up_to (length ss)) o order) ∙ sym (constants-sum ss (up_to (length ss))) ∙ ap constants (arranged-all ss)

  pub named-order : (v : ℕ) → named (arranged ss o) v ≡ named ss v
  named-order v =
      named-sum ss v o ∙ ap (ltb 0) (sym (sum-order _ (up_to (length ss)) o order)) ∙ sym (named-sum ss v (up_to (length ss))) ∙
      ap (λ (l : List Statement). named l v) (arranged-all ss)

  pub unused-order : (left v : ℕ) → unused_fault (arranged ss o) left v ≡ unused_fault ss left v
  unfolding unused_fault
  unused-order left v = first-agree _ _ 0 _ 0 v (span v left) (span v left) refl (λ j h. ap not (named-order (get_or (span v left) j 0)))
