-- Through the orders that the swaps give: the best so far and the orders still to come give the best of them all.
use mathlib.Core.Path.{◌≡◌, refl, sym, ap, subst, ◌∙◌}
use Prim.Native.Nat.{ℕ, zero, suc, ◌≤◌, ◌<◌}
use native.Mathlib.Omega.{arith}
use mathlib.Core.List.{List, [], ◌∷◌, ◌++◌}
use mathlib.Core.Bool.{Bool, true, false, false≢true}
use borrow.Author.Tests.{le-ltb}
use lib.ListN.{length, take, drop, take-append-drop}
use Rattle.std.specs.Prelude.{Ok, Option, Some, None, if◌then◌else◌}
use lib.Seq.{length-take-le, take_at}
use Rattle.capacity.specs.Capacity.{max_elements, max_searched}
use Rattle.lists.specs.Padded.{padded}
use Rattle.lists.proofs.Padded.{padded-length, padded-take, padded-other}
use Rattle.permutation.specs.declared.Permutations.{Permutations}
use Rattle.permutation.specs.declared.Swap.{Swap}
use Rattle.permutation.specs.Answered.{NextSwap}
use Rattle.permutation.specs.Swaps.{given, start, elements_fault, fresh_of, next_swap_of}
use Rattle.std.specs.List.{swap}
use Rattle.std.proofs.lemmas.List.Edits.{swap_is}
use Rattle.orders.specs.Lists.{swapped, up_to, factorial}
use Rattle.orders.specs.Heap.{heap}
use Rattle.orders.specs.Listing.{answer_at, answer_in}
use Rattle.lists.proofs.Span.{length-span}
use Rattle.orders.proofs.Lists.{length-swapped, swapped-append, order-swapped, order-refl, order_trans}
use Rattle.orders.proofs.Act.{visits, Within, within-heap, length-heap}
use Rattle.orders.proofs.Machine.{Follows, follows-start}
use Rattle.orders.proofs.Listed.{listed-visits}
use Rattle.query.specs.declared.Query.{Query}
use Rattle.query.specs.Query.{statements_of}
use Rattle.search.specs.declared.Best.{Best}
use Rattle.search.specs.Search.{Candidate, orders, candidates_of, candidates}
use Rattle.search.specs.Best.{best_from, Searchable, Orders}
use Rattle.search.proofs.Kept.{best-append}
use Rattle.search.proofs.Left.{swaps_left, swaps-left}

-- steps that follow swaps: none is left, or the first is answered and then the others
none_left : (state : Permutations) → Follows state [] → (next_swap_of state).next.is_some ≡ false
unfolding answer_at answer_in
none_left state f = rw (f zero)

first-left : (state : Permutations) (s : Swap) (rest : List Swap) → Follows state (s ∷ rest) → (next_swap_of state).next ≡ given s
unfolding answer_at answer_in
first-left state s rest f = f zero

others-left : (state : Permutations) (s : Swap) (rest : List Swap) → Follows state (s ∷ rest) → Follows (next_swap_of state).state rest
unfolding answer_at answer_in
others-left state s rest f t = f (suc t)

-- two numbers of an order interchanged
module _ (count : ℕ) (order : List ℕ) (o : Orders count order) where
  long : length (take count order) ≡ count
  long =
      let e = ap length o.zeros in
      length-take-le count order (omega (arith, e, padded-length 0 max_searched (take count order), o.few))

  module _ (a b : ℕ) (h : a < count) (g : b < count) where
    parted : swapped a b order ≡ swapped a b (take count order) ++ drop count order
    parted =
        ap (swapped a b) (sym (take-append-drop count order)) ∙ swapped-append (take count order) (drop count order) a b (omega (arith, long)) (omega (arith, long))

    pub swapped-front : take count (swapped a b order) ≡ swapped a b (take count order)
    swapped-front = ap (take count) parted ∙ take_at _ _ count (length-swapped (take count order) a b ∙ long)

    pub orders-swapped : Orders count (swapped a b order)
    orders-swapped =
        let l = take count order in
        let room : length l ≤ max_searched = omega (arith, long, o.few) in
        let p = padded-other 0 max_searched l (swapped a b l) (length-swapped l a b) room in
        record {
          few = o.few;
          is_order = rw swapped-front (order_trans o.is_order (order-swapped l a b (omega (arith, long)) (omega (arith, long))));
          zeros = ap (padded 0 max_searched) swapped-front ∙ sym (rw (o.zeros, long) at p) ∙ sym parted;
        }

-- as the library says it
pub swapped-library : (a b : ℕ) (l : List ℕ) → a < length l → b < length l → swapped a b l ≡ swap l a b
unfolding swapped
swapped-library a b l h g = swap_is l a b 0 h g

-- the first order
pub orders-first : (count : ℕ) → count ≤ max_searched → Orders count (padded 0 max_searched (up_to count))
orders-first count h =
    let e = padded-take 0 max_searched count (up_to count) (length-span 0 count) h in
    record { few = h; is_order = rw e (order-refl (up_to count)); zeros = rw e }

-- the orders still to come
pub record Round (q : Query) (best : Option Best) (order : List ℕ) (state : Permutations) : Type 0 where
  pub rest : List Swap
  pub follows : Follows state rest
  pub within : Within rest q.where_statements.count
  pub fewer : length rest ≤ factorial q.where_statements.count
  pub ordered : Orders q.where_statements.count order
  pub whole :
      best_from best (candidates q.variable_count (statements_of q) (visits rest (take q.where_statements.count order))) ≡
      best_from None (candidates q.variable_count (statements_of q) (orders q.where_statements.count))

pub fresh_start : (n : ℕ) → n ≤ max_searched → (fresh_of n).state ≡ start n
unfolding fresh_of elements_fault
fresh_start n h = let g : n ≤ max_elements = omega arith in rw (le-ltb max_elements n g)

pub fresh_fine : (n : ℕ) → n ≤ max_searched → (fresh_of n).verdict ≡ Ok tt
unfolding fresh_of elements_fault
fresh_fine n h = let g : n ≤ max_elements = omega arith in rw (le-ltb max_elements n g)

-- what `next` says there is
pub no-swap : (t : Bool) (s : Swap) → (if t then Some s else None) ≡ None → t ≡ false
no-swap true s e = absurd cc
no-swap false s e = refl

pub a-swap : (t : Bool) (s w : Swap) → (if t then Some s else None) ≡ Some w → (t ≡ true) × (s ≡ w)
a-swap true s w e = (refl, cc)
a-swap false s w e = absurd cc

abbrev pub orders_left : Query → Permutations → ℕ
orders_left q state = swaps_left (factorial q.where_statements.count) state

pub round-start : (q : Query) → Searchable q → Round q None (padded 0 max_searched (up_to q.where_statements.count)) (start q.where_statements.count)
round-start q able =
    let n = q.where_statements.count in
    let fits : n ≤ max_elements = omega (arith, able.few) in
    let e = padded-take 0 max_searched n (up_to n) (length-span 0 n) able.few in
    let f = follows-start n fits in
    let v : visits (heap n) (up_to n) ≡ orders n = sym (listed-visits (heap n) (start n) (up_to n) f) ∙ rw (length-heap n) in
    record {
      rest = heap n;
      follows = f;
      within = within-heap n;
      fewer = omega (arith, length-heap n);
      ordered = orders-first n able.few;
      whole = rw (e, v);
    }

module _ (q : Query) (best : Option Best) (order : List ℕ) (state : Permutations) (r : Round q best order state) (after : Option Best)
    (weighs : after ≡ best_from best (candidates_of q.variable_count (statements_of q) (take q.where_statements.count order))) where
  abbrev count : ℕ
  count = q.where_statements.count

  abbrev o : List ℕ
  o = take count order

  abbrev all : List (List ℕ) → List Candidate
  all = candidates q.variable_count (statements_of q)

  -- one order less
  less_one : (os : List (List ℕ)) → best_from best (all (o ∷ os)) ≡ best_from after (all os)
  unfolding candidates
  less_one os =
      best-append best (candidates_of q.variable_count (statements_of q) o) (all os) ∙ ap (λ (b : Option Best). best_from b (all os)) (sym weighs)

  none_more : best_from after (all []) ≡ after
  unfolding best_from candidates
  none_more = refl

  -- a step is not refused
  pub swap-fine : (next_swap_of state).next.verdict ≡ Ok tt
  swap-fine = go r.rest r.follows
    where
      go : (rest : List Swap) → Follows state rest → (next_swap_of state).next.verdict ≡ Ok tt
      go [] f = unfold answer_at answer_in in ap (λ (x : NextSwap). x.verdict) (f zero)
      go (s ∷ rest) f = ap (λ (x : NextSwap). x.verdict) (first-left state s rest f)

  -- after the last
  pub round-end : (next_swap_of state).next.is_some ≡ false → after ≡ best_from None (all (orders count))
  round-end n = go r.rest r.follows r.whole
    where
      go : (rest : List Swap) → Follows state rest → best_from best (all (visits rest o)) ≡ best_from None (all (orders count)) → after ≡ best_from None (all (orders count))
      go [] f w =
          let e : best_from best (all (o ∷ [])) ≡ best_from None (all (orders count)) = unfold visits in w in
          sym none_more ∙ sym (less_one []) ∙ e
      go (s ∷ rest) f w = absurd (false≢true (sym n ∙ ap (λ (x : NextSwap). x.is_some) (first-left state s rest f)))

  -- and before: another follows
  module _ (n : (next_swap_of state).next.is_some ≡ true) where
    abbrev w : Swap
    w = (next_swap_of state).next.swap

    -- its swap is within the order
    pub swap-within : (w.0 < count) × (w.1 < count)
    swap-within = go r.rest r.follows r.within
      where
        go : (rest : List Swap) → Follows state rest → Within rest count → (w.0 < count) × (w.1 < count)
        go [] f h = absurd (false≢true (sym (none_left state f) ∙ n))
        go (s ∷ rest) f h =
            subst (λ (x : NextSwap). (x.swap.0 < count) × (x.swap.1 < count)) (sym (first-left state s rest f)) (h.0, h.1)

    pub round-again : Round q after (swapped w.0 w.1 order) (next_swap_of state).state
    round-again = go r.rest r.follows r.within r.fewer r.whole
      where
        go : (rest : List Swap) → Follows state rest → Within rest count → length rest ≤ factorial count
            → best_from best (all (visits rest o)) ≡ best_from None (all (orders count)) → Round q after (swapped w.0 w.1 order) (next_swap_of state).state
        go [] f h g e = absurd (false≢true (sym (none_left state f) ∙ n))
        go (s ∷ rest) f h g e =
            let later = others-left state s rest f in
            let y : best_from best (all (o ∷ visits rest (swapped s.0 s.1 o))) ≡ best_from None (all (orders count)) = unfold visits in e in
            subst (λ (x : NextSwap). Round q after (swapped x.swap.0 x.swap.1 order) (next_swap_of state).state) (sym (first-left state s rest f)) record {
              rest = rest;
              follows = later;
              within = h.2;
              fewer = omega (arith, g);
              ordered = orders-swapped count order r.ordered s.0 s.1 h.0 h.1;
              whole = rw (swapped-front count order r.ordered s.0 s.1 h.0 h.1) (sym (less_one (visits rest (swapped s.0 s.1 o))) ∙ y);
            }

    pub round-less : orders_left q (next_swap_of state).state < orders_left q state
    round-less = go r.rest r.follows r.fewer
      where
        go : (rest : List Swap) → Follows state rest → length rest ≤ factorial count → orders_left q (next_swap_of state).state < orders_left q state
        go [] f g = absurd (false≢true (sym (none_left state f) ∙ n))
        go (s ∷ rest) f g =
            let later = others-left state s rest f in
            let fewer : length rest ≤ factorial count = omega (arith, g) in
            let u = swaps-left state (s ∷ rest) (factorial count) f g in
            let v = swaps-left (next_swap_of state).state rest (factorial count) later fewer in
            omega (arith, u, v)
