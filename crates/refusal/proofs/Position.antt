-- The first refusal of items by a test is found by a search for the first item for which the test holds.
use Rattle.std.specs.Prelude.{◌≡◌, ℕ, ◌+◌, List, [], ◌∷◌, Bool, true, false, Option, None, Some, Ok, cond, refl}
use Rattle.std.specs.List.{position_from}
use Rattle.refusal.specs.Verdict.{Verdict, refused, refuse_first, first_fault, refuse_if, or_else}

-- refusal n at the place that a search gives; fine where it finds none
abbrev pub refused_at : ℕ → Option ℕ → Verdict
refused_at n None = Ok tt
refused_at n (Some p) = refused n p

pub first-searched : {A : Type 0} (test : A → Bool) (n p : ℕ) (xs : List A) → refuse_first test n p xs ≡ refused_at n (position_from test p xs)
unfolding refuse_first first_fault
first-searched test n p [] = refl
first-searched {A} test n p (x ∷ xs) = by (test x) (first-searched test n (p + 1) xs)
  where
    by : (b : Bool) → refuse_first test n (p + 1) xs ≡ refused_at n (position_from test (p + 1) xs)
        → or_else (refuse_if b n p) (refuse_first test n (p + 1) xs) ≡ refused_at n (cond b (Some p) (position_from test (p + 1) xs))
    by true e = refl
    by false e = e
