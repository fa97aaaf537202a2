-- The nested loops grown from scan 0 inwards: the visits of some scans and one more are the visits of those, each followed by each row of
-- that one. Evaluation recurses outwards, so it meets the visits in this form.
use mathlib.Core.Path.{◌≡◌, refl, sym, ap, ◌∙◌}
use mathlib.Core.List.{List, [], ◌∷◌, ◌++◌, map, map-append, append_assoc, append-nil}
use Prim.Native.Nat.{ℕ}
use native.Mathlib.Omega.{arith}
use lib.ListN.{length}
use Rattle.plan.specs.declared.Scan.{Scan}
use Rattle.visits.specs.Visits.{Tables, visited, standing, each, visits, slots_at}
use Rattle.visits.specs.Pending.{further, extend}

module _ (ts : Tables) where
  extend-append : (ss : List Scan) (s : Scan) (slots : List ℕ) (vs ws : List (List ℕ))
      → extend ts ss s slots (vs ++ ws) ≡ extend ts ss s slots vs ++ extend ts ss s slots ws
  unfolding extend
  extend-append ss s slots [] ws = refl
  extend-append ss s slots (v ∷ vs) ws =
      rw (extend-append ss s slots vs ws) (sym (append_assoc (map (further v) (visited ts s (slots_at ts ss slots v))) _ _))

  -- what stands in front of all visits stays in front
  map-front : (k : ℕ) (w ks : List ℕ) → map (further (k ∷ w)) ks ≡ map (λ v. k ∷ v) (map (further w) ks)
  map-front k w [] = refl
  map-front k w (j ∷ ks) = ap (λ (l : List (List ℕ)). further (k ∷ w) j ∷ l) (map-front k w ks)

  extend-front : (s₀ : Scan) (ss : List Scan) (s : Scan) (slots : List ℕ) (k : ℕ) (ws : List (List ℕ))
      → extend ts (s₀ ∷ ss) s slots (map (λ w. k ∷ w) ws) ≡ map (λ w. k ∷ w) (extend ts ss s (standing ts s₀ slots k) ws)
  unfolding extend slots_at
  extend-front s₀ ss s slots k [] = refl
  extend-front s₀ ss s slots k (w ∷ ws) =
      rw (extend-front s₀ ss s slots k ws, map-append, map-front k w)

  -- one scan alone
  each-one : (ks : List ℕ) → each ks (λ k. map (λ w. k ∷ w) ([] ∷ [])) ≡ map (further []) ks
  unfolding each
  each-one [] = refl
  each-one (k ∷ ks) = ap (λ (l : List (List ℕ)). (k ∷ []) ∷ l) (each-one ks)

  -- the bridge between the loops as they nest and as they are grown
  pub visits-snoc : (ss : List Scan) (s : Scan) (slots : List ℕ) → visits ts (ss ++ (s ∷ [])) slots ≡ extend ts ss s slots (visits ts ss slots)
  unfolding visits extend slots_at each
  visits-snoc [] s slots = each-one (visited ts s slots) ∙ sym (append-nil _)
  visits-snoc (s₀ ∷ ss) s slots = go (λ l. visits-snoc ss s l) (visited ts s₀ slots)
    where
      go : ((l : List ℕ) → visits ts (ss ++ (s ∷ [])) l ≡ extend ts ss s l (visits ts ss l)) → (ks : List ℕ)
          → each ks (λ k. map (λ w. k ∷ w) (visits ts (ss ++ (s ∷ [])) (standing ts s₀ slots k)))
          ≡ extend ts (s₀ ∷ ss) s slots (each ks (λ k. map (λ w. k ∷ w) (visits ts ss (standing ts s₀ slots k))))
      go h [] = refl
      go h (k ∷ ks) = rw (h (standing ts s₀ slots k), extend-append (s₀ ∷ ss) s slots, extend-front s₀ ss s slots k, go h ks)

  -- the slots where one more scan stands
  pub slots_at-snoc : (ss : List Scan) (s : Scan) (slots w : List ℕ) (k : ℕ) → length w ≡ length ss
      → slots_at ts (ss ++ (s ∷ [])) slots (further w k) ≡ standing ts s (slots_at ts ss slots w) k
  unfolding slots_at
  slots_at-snoc [] s slots [] k e = refl
  slots_at-snoc [] s slots (j ∷ w) k e = absurd (omega arith)
  slots_at-snoc (s₀ ∷ ss) s slots [] k e = absurd (omega arith)
  slots_at-snoc (s₀ ∷ ss) s slots (j ∷ w) k e = slots_at-snoc ss s (standing ts s₀ slots j) w k (omega arith)
