-- What planning has at each place: a statement's scan, and what it says that 14, 15 and 16 are not refused.
use mathlib.Core.Path.{◌≡◌, refl, ap, ◌∙◌}
use Prim.Native.Nat.{ℕ, zero, suc, ◌+◌, ◌<◌}
use mathlib.Core.List.{List, [], ◌∷◌, ◌++◌, append-nil}
use mathlib.Core.Bool.{true, false}
use native.Mathlib.Nat.{add-zero, add_assoc, not-suc-le-zero, le_of_suc-le-suc}
use borrow.Author.Tests.{leb-false, not-false}
use lib.ListN.{length, get_or, take}
use lib.Seq.{append_snoc}
use Rattle.std.specs.Prelude.{Ok}
use Rattle.refusal.specs.Verdict.{refuse_if}
use Rattle.refusal.proofs.Fine.{refuse-fine, or-fine}
use Rattle.refusal.proofs.First.{each-passes, each_number}
use Rattle.query.specs.declared.Var.{Var}
use Rattle.query.specs.declared.Statement.{Statement}
use Rattle.query.specs.Query.{named}
use Rattle.query_check.specs.Refusals.{constants_in, constants, selects_fault, unused_fault}
use Rattle.plan.specs.declared.Scan.{Scan}
use Rattle.planner.specs.Refusals.{binds_twice, bound_twice_fault}
use Rattle.planner.specs.Planning.{scan_of, scans_for}

-- the scans before scan j are those of the statements before statement j
pub take-scans : (before l : List Statement) (c j : ℕ) → take j (scans_for before l c) ≡ scans_for before (take j l) c
unfolding scans_for
take-scans before l c zero = refl
take-scans before [] c (suc j) = refl
take-scans before (s ∷ l) c (suc j) = ap (λ (t : List Scan). scan_of before s c ∷ t) (take-scans (before ++ (s ∷ [])) l (c + constants_in s.value) j)

-- and scan j is statement j's after these
pub scan-at : (before l : List Statement) (c j : ℕ) (z : Scan) (d : Statement) → j < length l
    → get_or (scans_for before l c) j z ≡ scan_of (before ++ take j l) (get_or l j d) (c + constants (take j l))
unfolding scans_for constants
scan-at before [] c j z d h = absurd (not-suc-le-zero h)
scan-at before (s ∷ l) c zero z d h = rw (append-nil, add-zero)
scan-at before (s ∷ l) c (suc j) z d h = scan-at (before ++ (s ∷ [])) l (c + constants_in s.value) j z d (le_of_suc-le-suc h) ∙ rw (append_snoc, add_assoc)

-- 16: no statement binds one variable twice
pub bound-once : (before l : List Statement) (i : ℕ) → bound_twice_fault before l i ≡ Ok tt
    → (j : ℕ) (d : Statement) → j < length l → binds_twice (before ++ take j l) (get_or l j d) ≡ false
unfolding bound_twice_fault
bound-once before [] i e j d h = absurd (not-suc-le-zero h)
bound-once before (s ∷ l) i e zero d h = rw append-nil (refuse-fine _ _ _ (or-fine (refuse_if (binds_twice before s) 16 i) _ e).0)
bound-once before (s ∷ l) i e (suc j) d h =
    rw append_snoc at (bound-once (before ++ (s ∷ [])) l (i + 1) (or-fine (refuse_if (binds_twice before s) 16 i) _ e).1 j d (le_of_suc-le-suc h))

-- 14: each select names a variable
pub selects-below : (n : ℕ) (vs : List Var) (i : ℕ) → selects_fault n vs i ≡ Ok tt → (j : ℕ) (d : Var) → j < length vs → (get_or vs j d).0 < n
unfolding selects_fault
selects-below n vs i e j d h = leb-false _ _ ((each-passes _ _ d i vs).0 e j h)

-- 15: each variable is named
pub all_named : (ss : List Statement) (left v : ℕ) → unused_fault ss left v ≡ Ok tt → (j : ℕ) → j < left → named ss (v + j) ≡ true
unfolding unused_fault
all_named ss left v e j h = not-false _ ((each_number _ _ v v left).0 e j h)
