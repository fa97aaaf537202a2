-- What the best of all candidates says of the answer: 18 where there is none, else the plan of its order with its scans.
use mathlib.Core.Path.{◌≡◌, refl, sym, ap, ◌∙◌}
use mathlib.Core.Logic.{◌⊎◌, inl, inr}
use Prim.Native.Nat.{ℕ, suc, ◌≤◌, ◌<◌}
use native.Mathlib.Omega.{arith}
use mathlib.Core.List.Memᴰ
use mathlib.Core.List.{List, [], ◌∷◌, map, Memᴰ}
use mathlib.Core.Bool.{Bool, true, false, cond, false≢true}
use borrow.Author.Tests.{lt-ltb, le-ltb}
use lib.ListN.{length, take}
use lib.Dec.{ltb}
use Rattle.capacity.specs.Capacity.{max_scans, max_searched}
use Rattle.refusal.specs.Verdict.{Refusal, Verdict}
use Rattle.std.specs.Prelude.{Ok, Err, Some, None}
use Rattle.refusal.specs.Verdict.{refused}
use Rattle.lists.specs.Padded.{padded}
use Rattle.lists.proofs.Padded.{padded-take, padded-other}
use Rattle.orders.specs.Lists.{up_to, OrderOf}
use Rattle.lists.proofs.Span.{length-span}
use Rattle.query.specs.declared.Query.{Query}
use Rattle.query.specs.declared.Statement.{Statement}
use Rattle.query.specs.Query.{statements_of}
use Rattle.query_check.specs.Refusals.{query_fault}
use Rattle.plan.specs.declared.Scan.{Scan}
use Rattle.plan.specs.declared.Plan.{Plan}
use Rattle.plan.specs.Plan.{zero_scan}
use Rattle.planner.specs.Planning.{scans_for, plan_for, plan_of}
use Rattle.planned.proofs.Passes.{plan-verdict}
use Rattle.listing.specs.Next.{with_scans}
use Rattle.listing.specs.Listing.{cycle_of, each_before, combinations}
use Rattle.search.specs.declared.Best.{Best}
use Rattle.search.specs.Answered.{Found}
use Rattle.search.specs.Search.{Candidate, orders, arranged, is_fine, candidates, least_from, found_as, not_found, first_least, search_of}
use Rattle.search.specs.Best.{kept, best_from, arranged_query, plan_with, chosen, Searchable, Orders}
use Rattle.search.proofs.Kept.{best-first, best-of-none}
use Rattle.search.proofs.Weighed.{map-mem, only-orders, Weighed, only-plans}
use Rattle.search.proofs.Fresh.{initial-long, arranged-fault, fresh-plan}

-- the first of least cost is one of the candidates
least-in : (c : Candidate) (ds : List Candidate) → Memᴰ (least_from c ds) (c ∷ ds)
unfolding least_from
least-in c [] = Memᴰ.head refl
least-in c (d ∷ ds) = go (ltb d.cost c.cost) (least-in d ds) (least-in c ds)
  where
    go : (t : Bool) → Memᴰ (least_from d ds) (d ∷ ds) → Memᴰ (least_from c ds) (c ∷ ds) → Memᴰ (least_from (cond t d c) ds) (c ∷ (d ∷ ds))
    go true m k = Memᴰ.tail m
    go false m k = skip (Memᴰ.cases_cons k)
      where
        skip : (least_from c ds ≡ c) ⊎ Memᴰ (least_from c ds) ds → Memᴰ (least_from c ds) (c ∷ (d ∷ ds))
        skip (inl e) = Memᴰ.head e
        skip (inr i) = Memᴰ.tail (Memᴰ.tail i)

-- a plan listed has as many scans
before-long : (k : ℕ) (xs : List Scan) (ls : List (List Scan)) → ((m : List Scan) → Memᴰ m ls → length m ≡ k) → (l : List Scan) → Memᴰ l (each_before xs ls) → length l ≡ suc k
unfolding each_before
before-long k xs [] h l i = absurd (Memᴰ.not-nil i)
before-long k xs (m ∷ ls) h l i = go (Memᴰ.append_cases (map (λ x. x ∷ m) xs) i) (before-long k xs ls (λ n j. h n (Memᴰ.tail j)) l)
  where
    go : Memᴰ l (map (λ x. x ∷ m) xs) ⊎ Memᴰ l (each_before xs ls) → (Memᴰ l (each_before xs ls) → length l ≡ suc k) → length l ≡ suc k
    go (inl j) r = let f = map-mem (λ x. x ∷ m) xs l j in ap length f.2 ∙ ap suc (h m (Memᴰ.head refl))
    go (inr j) r = r j

listed-long : (ss l : List Scan) → Memᴰ l (combinations ss) → length l ≡ length ss
unfolding combinations
listed-long [] l i = go (Memᴰ.cases_cons i)
  where
    go : (l ≡ []) ⊎ Memᴰ l [] → length l ≡ 0
    go (inl e) = ap length e
    go (inr j) = absurd (Memᴰ.not-nil j)
listed-long (s ∷ ss) l i = before-long (length ss) (cycle_of s) (combinations ss) (listed-long ss) l i

-- a sound order is not refused
pub sound-fine : (v : Verdict) → is_fine v ≡ true → v ≡ Ok tt
sound-fine (Ok tt) e = refl
sound-fine (Err r) e = absurd (false≢true e)

module _ (q : Query) (able : Searchable q) where
  abbrev count : ℕ
  count = q.where_statements.count

  abbrev ss : List Statement
  ss = statements_of q

  abbrev all : List Candidate
  all = candidates q.variable_count ss (orders count)

  -- the answer that a candidate makes
  module _ (c : Candidate) (w : Weighed q.variable_count ss (orders count) c) where
    abbrev o : List ℕ
    o = w.0

    abbrev l : List Scan
    l = w.1

    is_order : OrderOf (up_to count) o
    is_order = only-orders count (omega (arith, able.few)) o w.2

    front : take count (padded 0 max_searched o) ≡ o
    front = padded-take 0 max_searched count o (is_order.long ∙ length-span 0 count) able.few

    pub kept-orders : Orders count (kept c).order
    kept-orders = rw w.5 record { few = able.few; is_order = rw front is_order; zeros = rw front }

    abbrev fresh : Plan
    fresh = plan_for q (arranged ss o)

    fine : (plan_of (arranged_query q o)).verdict ≡ Ok tt
    fine = plan-verdict (arranged_query q o) ∙ arranged-fault q able.clear.statements_sized able.clear.fine o is_order ∙ sound-fine _ w.3

    planned : (plan_of (arranged_query q o)).plan ≡ fresh
    planned = fresh-plan q able.clear.statements_sized able.clear.fine o is_order able.clear.selects_sized fine

    with-scans : plan_with fresh (padded zero_scan max_scans l) ≡ with_scans fresh l
    unfolding plan_for
    with-scans =
        let i = scans_for [] (arranged ss o) q.variable_count in
        let n : length i ≡ count = initial-long q able.clear.statements_sized able.clear.fine o is_order in
        let p = padded-other zero_scan max_scans i l (listed-long i l w.4) (omega (arith, n, able.few)) in
        rw (sym (rw n at p))

    pub kept-fine : (plan_of (arranged_query q (take count (kept c).order))).verdict ≡ Ok tt
    kept-fine = rw (w.5, front) fine

    pub kept-found : chosen q (kept c) ≡ found_as q c
    kept-found = rw (w.5, front, planned, with-scans)

  -- no candidate
  pub none_found : None ≡ best_from None all → first_least q all ≡ not_found (refused 18 0)
  none_found e = go all e
    where
      go : (cs : List Candidate) → None ≡ best_from None cs → first_least q cs ≡ not_found (refused 18 0)
      go [] f = refl
      go (c ∷ cs) f = absurd (cc (f ∙ best-first c cs))

  -- the first of least cost: its order is planned, and makes the answer
  pub record Chosen (b : Best) (found : Found) : Type 0 where
    pub ordered : Orders count b.order
    pub accepted : (plan_of (arranged_query q (take count b.order))).verdict ≡ Ok tt
    pub answers : chosen q b ≡ found

  pub some-found : (b : Best) → Some b ≡ best_from None all → Chosen b (first_least q all)
  some-found b e = go all (only-plans q.variable_count ss (orders count)) e
    where
      go : (cs : List Candidate) → ((c : Candidate) → Memᴰ c cs → Weighed q.variable_count ss (orders count) c) → Some b ≡ best_from None cs
          → Chosen b (first_least q cs)
      go [] h f = absurd (cc (f ∙ best-of-none))
      go (c ∷ cs) h f =
          let d = least_from c cs in
          let w = h d (least-in c cs) in
          let k : b ≡ kept d = cc (f ∙ best-first c cs) in
          rw k record { ordered = kept-orders d w; accepted = kept-fine d w; answers = kept-found d w }

-- what the search answers: 10 to 15, then 17, then the first of least cost
pub search-refused : (q : Query) (r : Refusal) → query_fault q ≡ Err r → search_of q ≡ not_found (Err r)
unfolding search_of
search-refused q r e = rw e

module _ (q : Query) (e : query_fault q ≡ Ok tt) where
  pub search-many : max_searched < q.where_statements.count → search_of q ≡ not_found (refused 17 0)
  unfolding search_of
  search-many h = rw (e, lt-ltb max_searched q.where_statements.count h)

  pub search-first : q.where_statements.count ≤ max_searched
      → search_of q ≡ first_least q (candidates q.variable_count (statements_of q) (orders q.where_statements.count))
  unfolding search_of
  search-first h = rw (e, le-ltb max_searched q.where_statements.count h)
