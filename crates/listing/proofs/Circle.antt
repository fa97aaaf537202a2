-- Lists that a step runs through and back to the first: none stands twice, since how many follow an element is known by the element.
use mathlib.Core.Path.{◌≡◌, refl, ap}
use Prim.Native.Nat.{ℕ, zero, suc, ◌≤◌, ◌<◌}
use mathlib.Core.List.{List, [], ◌∷◌}
use mathlib.Core.Bool.{Bool, true, false, false≢true}
use native.Mathlib.Omega.{arith}
use native.Mathlib.Nat.{not-suc-le-zero, le_of_suc-le-suc}
use lib.ListN.{length, get_or, drop, length-drop, drop_of_length-le}
use lib.Seq.{drop-cons}

module _ {A : Type 0} (step : A → A) (isNew : A → Bool) where
  -- from x on: each steps to the one after it and that is new; the last one steps to w and that is not new
  abbrev pub Run : A → A → List A → Type 0
  Run w x [] = (isNew x ≡ false) × (step x ≡ w)
  Run w x (y ∷ ys) = (isNew x ≡ true) × (step x ≡ y) × Run w y ys

  -- a list that begins with x, and whose last element steps to x again
  pub record Circle (x : A) (l : List A) : Type 0 where
    pub begins : l ≡ x ∷ drop 1 l
    pub runs : Run x x (drop 1 l)

  module _ (w : A) where
    -- from element t on
    run_at : (x : A) (xs : List A) → Run w x xs → (d : A) (t : ℕ) → t ≤ length xs → Run w (get_or (x ∷ xs) t d) (drop t xs)
    run_at x xs r d zero h = r
    run_at x [] r d (suc t) h = absurd (not-suc-le-zero h)
    run_at x (y ∷ ys) r d (suc t) h = run_at y ys r.2 d t (le_of_suc-le-suc h)

    -- how many follow an element is known by it
    run-same : (x y : A) (xs ys : List A) → x ≡ y → Run w x xs → Run w y ys → length xs ≡ length ys
    run-same x y [] [] e r q = refl
    run-same x y [] (b ∷ ys) e r q = absurd (false≢true (cc (r.0, q.0, ap isNew e)))
    run-same x y (a ∷ xs) [] e r q = absurd (false≢true (cc (r.0, q.0, ap isNew e)))
    run-same x y (a ∷ xs) (b ∷ ys) e r q = ap suc (run-same a b xs ys (cc (r.1, q.1, ap step e)) r.2 q.2)

  module _ (x : A) (l : List A) (c : Circle x l) (d : A) where
    abbrev at : (t : ℕ) → t ≤ length (drop 1 l) → Run x (get_or (x ∷ drop 1 l) t d) (drop t (drop 1 l))
    at = run_at x x (drop 1 l) c.runs d

    -- the first, each step, the end, and that none stands twice, by places
    pub circle-first : get_or l 0 d ≡ x
    circle-first = rw c.begins

    pub circle-steps : (t : ℕ) → suc t < length l → (isNew (get_or l t d) ≡ true) × (step (get_or l t d) ≡ get_or l (suc t) d)
    circle-steps = rw c.begins (λ t h. let r = rw (drop-cons (drop 1 l) t d (le_of_suc-le-suc h)) at (at t (omega arith)) in (r.0, r.1))

    pub circle-ends : (t : ℕ) → suc t ≡ length l → (isNew (get_or l t d) ≡ false) × (step (get_or l t d) ≡ x)
    circle-ends = rw c.begins (λ t e.
        let h : length (drop 1 l) ≤ t = omega arith in
        rw (drop_of_length-le (drop 1 l) h) at (at t (omega arith)))

    pub circle-once : (t u : ℕ) → t < length l → u < length l → get_or l t d ≡ get_or l u d → t ≡ u
    circle-once = rw c.begins (λ t u h g e.
        let r = drop 1 l in
        let k = run-same x (get_or (x ∷ r) t d) (get_or (x ∷ r) u d) (drop t r) (drop u r) e (at t (le_of_suc-le-suc h)) (at u (le_of_suc-le-suc g)) in
        omega (arith, length-drop t r, length-drop u r))
