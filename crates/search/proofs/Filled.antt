-- An array that is filled with statements in an order, one by one.
use mathlib.Core.Path.{◌≡◌, sym, ap, ◌∙◌}
use Prim.Native.Nat.{ℕ, zero, suc, ◌+◌, ◌≤◌, ◌<◌}
use native.Mathlib.Nat.{zero-add}
use native.Mathlib.Numerals.{add-one}
use native.Mathlib.Omega.{arith}
use mathlib.Core.List.{List, [], ◌∷◌, ◌++◌, map-append}
use lib.ListN.{length, get_or, take, set, replicate, length-map}
use lib.Seq.{length-take-le, take-suc, get_or-take}
use Rattle.lists.specs.Span.{span}
use Rattle.capacity.specs.Capacity.{max_statements, max_searched}
use Rattle.lists.specs.Padded.{padded}
use Rattle.lists.proofs.Padded.{padded-none, padded-more}
use Rattle.orders.specs.Lists.{up_to, OrderOf}
use Rattle.lists.proofs.Span.{length-span}
use Rattle.query.specs.declared.Statement.{Statement}
use Rattle.query.specs.Query.{zero_statement}
use Rattle.search.specs.Search.{arranged}
use Rattle.search.proofs.Arranged.{order_below}

-- after i of them
abbrev pub filled : ℕ → List Statement → List ℕ → ℕ → List Statement
filled count given order i = padded zero_statement max_statements (arranged (take count given) (take i order))

module _ (count : ℕ) (given : List Statement) (order : List ℕ) (few : count ≤ max_searched) (o : OrderOf (up_to count) order) where
  pub filled-start : replicate max_statements zero_statement ≡ filled count given order 0
  filled-start = sym (padded-none zero_statement max_statements)

  pub order-long : length order ≡ count
  order-long = o.long ∙ length-span 0 count

  pub number-below : (i : ℕ) → i < length order → get_or order i 0 < count
  number-below i h = order_below count order o i h

  pub filled_more : (i : ℕ) → i < length order → set (filled count given order i) i (get_or given (get_or order i 0) zero_statement) ≡ filled count given order (i + 1)
  filled_more i h =
      let s = get_or given (get_or order i 0) zero_statement in
      let a = arranged (take count given) (take i order) in
      let l : length a ≡ i = length-map (take i order) _ ∙ length-take-le i order (omega arith) in
      let e : get_or (take count given) (get_or order i 0) zero_statement ≡ s = get_or-take count given (get_or order i 0) zero_statement (number-below i h) in
      let p = padded-more zero_statement max_statements a s (omega (arith, l, few, order-long)) in
      (rw l at p) ∙ ap (padded zero_statement max_statements) (sym (rw (add-one, take-suc order i 0 h, map-append, e)))

-- the same for the numbers 0, 1, ..
span_more : (a m : ℕ) → span a (suc m) ≡ span a m ++ ((a + m) ∷ [])
unfolding span
span_more a zero = ap (λ (x : ℕ). x ∷ []) (omega arith)
span_more a (suc m) = ap (λ (l : List ℕ). a ∷ l) (span_more (a + 1) m ∙ ap (λ (x : ℕ). span (a + 1) m ++ (x ∷ [])) (omega arith))

pub numbers-start : replicate max_searched 0 ≡ padded 0 max_searched (up_to 0)
unfolding span
numbers-start = sym (padded-none 0 max_searched)

pub numbers_more : (i : ℕ) → i < max_searched → set (padded 0 max_searched (up_to i)) i i ≡ padded 0 max_searched (up_to (i + 1))
numbers_more i h =
    let l = length-span 0 i in
    let p = padded-more 0 max_searched (up_to i) i (omega (arith, l)) in
    (rw l at p) ∙ ap (padded 0 max_searched) (sym (rw add-one (span_more 0 i ∙ ap (λ (x : ℕ). up_to i ++ (x ∷ [])) (zero-add i))))
