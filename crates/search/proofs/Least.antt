-- What the answer of the search means: the first of least cost, or 18, which is given exactly if no order is sound.
use mathlib.Core.Path.{◌≡◌, refl, sym, ap, subst, ◌∙◌}
use Prim.Native.Nat.{ℕ, ◌≤◌}
use native.Mathlib.Omega.{arith}
use mathlib.Core.List.Memᴰ
use mathlib.Core.List.{List, [], ◌∷◌, Memᴰ}
use mathlib.Core.Bool.{Bool, true, false, false≢true}
use Rattle.capacity.specs.Capacity.{max_elements, max_searched}
use Rattle.std.specs.Prelude.{Ok}
use Rattle.refusal.specs.Verdict.{refused}
use Rattle.orders.specs.Lists.{up_to, OrderOf}
use Rattle.query.specs.declared.Query.{Query}
use Rattle.query.specs.declared.Statement.{Statement}
use Rattle.query.specs.Query.{statements_of}
use Rattle.query_check.specs.Refusals.{query_fault}
use Rattle.plan.specs.declared.Scan.{Scan}
use Rattle.planner.specs.Planning.{scans_for}
use Rattle.planned.proofs.Initial.{scans-initial}
use Rattle.listing.specs.Listing.{combinations}
use Rattle.listing.proofs.Listed.{wheels}
use Rattle.search.specs.Answered.{Found}
use Rattle.search.specs.Search.{Candidate, orders, arranged, is_sound, weighed, candidates, least_from, found_as, not_found, first_least, search_of}
use Rattle.search.specs.FirstLeast.{FirstLeast}
use Rattle.search.proofs.First.{least_first}
use Rattle.search.proofs.Weighed.{every-order, only-orders, every-plan, only-plans}
use Rattle.search.proofs.Answer.{search-first}

module _ (q : Query) (fine : query_fault q ≡ Ok tt) (few : q.where_statements.count ≤ max_searched) where
  abbrev count : ℕ
  count = q.where_statements.count

  abbrev ss : List Statement
  ss = statements_of q

  abbrev n : ℕ
  n = q.variable_count

  abbrev all : List Candidate
  all = candidates n ss (orders count)

  -- an order is sound
  abbrev Sound : List ℕ → Type 0
  Sound o = is_sound (arranged ss o) ≡ true

  fits : count ≤ max_elements
  fits = omega (arith, few)

  -- the search weighs every plan of every sound order, and nothing else
  pub weighs-every : (o : List ℕ) → OrderOf (up_to count) o → Sound o → (l : List Scan) → Memᴰ l (combinations (scans_for [] (arranged ss o) n)) → Memᴰ (weighed o l) all
  weighs-every o p s l m = every-plan n ss (orders count) o l (every-order count fits o p) s m

  pub weighs-only : (c : Candidate) → Memᴰ c all
      → (o : List ℕ) × (l : List Scan) × (OrderOf (up_to count) o) × Sound o × (Memᴰ l (combinations (scans_for [] (arranged ss o) n))) × (c ≡ weighed o l)
  weighs-only c m = let w = only-plans n ss (orders count) c m in (w.0, w.1, only-orders count fits w.0 w.2, w.3, w.4, w.5)

  -- a sound order has a plan, its initial one
  initial-weighed : (o : List ℕ) → OrderOf (up_to count) o → Sound o → Memᴰ (weighed o (scans_for [] (arranged ss o) n)) all
  initial-weighed o p s =
      let l = scans_for [] (arranged ss o) n in
      let i = scans-initial [] (arranged ss o) n in
      weighs-every o p s l (subst (λ (x : List (List Scan)). Memᴰ l x) (sym (wheels l i).begins) (Memᴰ.head refl))

  -- it picks the first of least cost
  pub picks-least : (search_of q).verdict ≡ Ok tt → (c : Candidate) × FirstLeast c all × (search_of q ≡ found_as q c)
  picks-least v = go all (search-first q fine few)
    where
      go : (cs : List Candidate) → search_of q ≡ first_least q cs → (c : Candidate) × FirstLeast c cs × (search_of q ≡ found_as q c)
      go [] e = absurd (false≢true (cc (v, ap (λ (r : Found). r.verdict) e)))
      go (c ∷ cs) e = (least_from c cs, least_first c cs, e)

  -- it refuses 18 only if no order is sound
  pub refuses-unsound : (search_of q).verdict ≡ refused 18 0 → (o : List ℕ) → OrderOf (up_to count) o → is_sound (arranged ss o) ≡ false
  refuses-unsound v o p = go (is_sound (arranged ss o)) refl
    where
      none : (cs : List Candidate) (c : Candidate) → search_of q ≡ first_least q cs → Memᴰ c cs → ⊥
      none [] c e m = Memᴰ.not-nil m
      none (d ∷ cs) c e m = absurd (false≢true (cc (v, ap (λ (r : Found). r.verdict) e)))

      go : (t : Bool) → is_sound (arranged ss o) ≡ t → t ≡ false
      go true s = absurd (none all _ (search-first q fine few) (initial-weighed o p s))
      go false s = refl

  -- and wherever none is
  pub unsound-refused : ((o : List ℕ) → OrderOf (up_to count) o → is_sound (arranged ss o) ≡ false) → search_of q ≡ not_found (refused 18 0)
  unsound-refused h = go all weighs-only (search-first q fine few)
    where
      go : (cs : List Candidate)
          → ((c : Candidate) → Memᴰ c cs → (o : List ℕ) × (l : List Scan) × (OrderOf (up_to count) o) × Sound o × (Memᴰ l (combinations (scans_for [] (arranged ss o) n))) × (c ≡ weighed o l))
          → search_of q ≡ first_least q cs → search_of q ≡ not_found (refused 18 0)
      go [] f e = e
      go (c ∷ cs) f e = let w = f c (Memᴰ.head refl) in absurd (false≢true (sym (h w.0 w.2) ∙ w.3))
