-- The candidates are the plans listed for every sound order of the statements, and nothing else.
use mathlib.Core.Path.{◌≡◌, refl, sym, ap, subst}
use mathlib.Core.Logic.{◌⊎◌, inl, inr}
use Prim.Native.Nat.{ℕ, zero, suc, ◌≤◌, ◌<◌}
use native.Mathlib.Nat.{not-suc-le-zero, le_of_suc-le-suc}
use native.Mathlib.Omega.{arith}
use mathlib.Core.List.Memᴰ
use mathlib.Core.List.{List, [], ◌∷◌, ◌++◌, map, Memᴰ}
use mathlib.Core.Bool.{Bool, true, false, cond}
use Rattle.capacity.specs.Capacity.{max_elements}
use Rattle.permutation.specs.declared.Permutations.{Permutations}
use Rattle.permutation.specs.Swaps.{start, next_swap_of}
use Rattle.orders.specs.Lists.{up_to, factorial, OrderOf}
use Rattle.orders.specs.Listing.{applied, order_at, listed}
use Rattle.orders.proofs.Theorem.{complete}
use Rattle.query.specs.declared.Statement.{Statement}
use Rattle.plan.specs.declared.Scan.{Scan}
use Rattle.planner.specs.Planning.{scans_for}
use Rattle.listing.specs.Listing.{combinations}
use Rattle.search.specs.Search.{Candidate, orders, arranged, is_sound, weighed, candidates_of, candidates}

pub mem-map : {A B : Type 0} (f : A → B) {a : A} {l : List A} → Memᴰ a l → Memᴰ (f a) (map f l)
mem-map f (Memᴰ.head e) = Memᴰ.head (ap f e)
mem-map f (Memᴰ.tail m) = Memᴰ.tail (mem-map f m)

pub map-mem : {A B : Type 0} (f : A → B) (l : List A) (b : B) → Memᴰ b (map f l) → (a : A) × (Memᴰ a l) × (b ≡ f a)
map-mem f [] b m = absurd (Memᴰ.not-nil m)
map-mem {A = A} f (x ∷ xs) b m = go (Memᴰ.cases_cons m) (map-mem f xs b)
  where
    go : (b ≡ f x) ⊎ Memᴰ b (map f xs) → (Memᴰ b (map f xs) → (a : A) × (Memᴰ a xs) × (b ≡ f a)) → (a : A) × (Memᴰ a (x ∷ xs)) × (b ≡ f a)
    go (inl e) r = (x, Memᴰ.head refl, e)
    go (inr n) r = let o = r n in (o.0, Memᴰ.tail o.1, o.2)

-- the orders are those after each number of steps
order-in : (k : ℕ) (s : Permutations) (l : List ℕ) (t : ℕ) → t < k → Memᴰ (order_at t s l) (listed k s l)
unfolding listed order_at
order-in zero s l t h = absurd (not-suc-le-zero h)
order-in (suc k) s l zero h = Memᴰ.head refl
order-in (suc k) s l (suc t) h = Memᴰ.tail (order-in k (next_swap_of s).state (applied (next_swap_of s).next l) t (le_of_suc-le-suc h))

in-order : (k : ℕ) (s : Permutations) (l o : List ℕ) → Memᴰ o (listed k s l) → (t : ℕ) × (t < k) × (order_at t s l ≡ o)
unfolding listed order_at
in-order zero s l o m = absurd (Memᴰ.not-nil m)
in-order (suc k) s l o m = go (Memᴰ.cases_cons m) (in-order k s' l' o)
  where
    s' : Permutations
    s' = (next_swap_of s).state

    l' : List ℕ
    l' = applied (next_swap_of s).next l

    go : (o ≡ l) ⊎ Memᴰ o (listed k s' l') → (Memᴰ o (listed k s' l') → (t : ℕ) × (t < k) × (order_at t s' l' ≡ o)) → (t : ℕ) × (t < suc k) × (order_at t s l ≡ o)
    go (inl e) r = (0, omega arith, sym e)
    go (inr n) r = let q = r n in (suc q.0, omega (arith, q.1), q.2)

module _ (n : ℕ) (fits : n ≤ max_elements) where
  -- each order of the statements' numbers is gone through, and no other list
  pub every-order : (o : List ℕ) → OrderOf (up_to n) o → Memᴰ o (orders n)
  every-order o p =
      let w = (complete n fits).orders o p in
      Memᴰ.cast (sym w.2) (order-in (factorial n) (start n) (up_to n) w.0 w.1)

  pub only-orders : (o : List ℕ) → Memᴰ o (orders n) → OrderOf (up_to n) o
  only-orders o m =
      let t = in-order (factorial n) (start n) (up_to n) o m in
      rw t.2 at ((complete n fits).only t.0 t.1)

module _ (n : ℕ) (ss : List Statement) where
  -- each plan listed for a sound order is weighed
  pub every-plan : (os : List (List ℕ)) (o : List ℕ) (l : List Scan) → Memᴰ o os → is_sound (arranged ss o) ≡ true
      → Memᴰ l (combinations (scans_for [] (arranged ss o) n)) → Memᴰ (weighed o l) (candidates n ss os)
  unfolding candidates
  every-plan [] o l m e p = absurd (Memᴰ.not-nil m)
  every-plan (x ∷ os) o l m e p = go (Memᴰ.cases_cons m) (λ q. every-plan os o l q e p)
    where
      here : Memᴰ (weighed o l) (candidates_of n ss o)
      here = unfold candidates_of in rw e (mem-map (weighed o) p)

      go : (o ≡ x) ⊎ Memᴰ o os → (Memᴰ o os → Memᴰ (weighed o l) (candidates n ss os)) → Memᴰ (weighed o l) (candidates_of n ss x ++ candidates n ss os)
      go (inl q) r = Memᴰ.append_left (candidates n ss os) (subst (λ (y : List ℕ). Memᴰ (weighed o l) (candidates_of n ss y)) q here)
      go (inr q) r = Memᴰ.append_right (candidates_of n ss x) (r q)

  -- and nothing else
  abbrev pub Weighed : List (List ℕ) → Candidate → Type 0
  Weighed os c = (o : List ℕ) × (l : List Scan) × (Memᴰ o os) × (is_sound (arranged ss o) ≡ true) × (Memᴰ l (combinations (scans_for [] (arranged ss o) n))) × (c ≡ weighed o l)

  pub only-plans : (os : List (List ℕ)) (c : Candidate) → Memᴰ c (candidates n ss os) → Weighed os c
  unfolding candidates
  only-plans [] c m = absurd (Memᴰ.not-nil m)
  only-plans (x ∷ os) c m = go (Memᴰ.append_cases (candidates_of n ss x) m) (only-plans os c)
    where
      here : (t : Bool) → is_sound (arranged ss x) ≡ t → Memᴰ c (cond t (map (weighed x) (combinations (scans_for [] (arranged ss x) n))) []) → Weighed (x ∷ os) c
      here true e q =
          let f = map-mem (weighed x) (combinations (scans_for [] (arranged ss x) n)) c q in
          (x, f.0, Memᴰ.head refl, e, f.1, f.2)
      here false e q = absurd (Memᴰ.not-nil q)

      go : Memᴰ c (candidates_of n ss x) ⊎ Memᴰ c (candidates n ss os) → (Memᴰ c (candidates n ss os) → Weighed os c) → Weighed (x ∷ os) c
      go (inl q) r = unfold candidates_of in here (is_sound (arranged ss x)) refl q
      go (inr q) r = let w = r q in (w.0, w.1, Memᴰ.tail w.2, w.3, w.4, w.5)
