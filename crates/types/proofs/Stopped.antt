-- Where statements are refused: at the first that is, and no statement before it is.
use mathlib.Core.Path.{◌≡◌, refl, sym, ap, ◌∙◌}
use Prim.Native.Nat.{ℕ, suc, ◌+◌, ◌<◌}
use mathlib.Core.List.{List, [], ◌∷◌, ◌++◌, append_assoc, append-nil}
use mathlib.Core.Bool.{Bool, true, false, not}
use native.Mathlib.Omega.{arith}
use lib.ListN.{length, get_or, take}
use Rattle.refusal.specs.Verdict.{Refusal, Verdict}
use Rattle.std.specs.Prelude.{Ok, Err}
use Rattle.refusal.specs.Verdict.{refused, refuse_if, number_of, place_of, or_else}
use Rattle.query.specs.declared.Statement.{Statement}
use Rattle.query.specs.Query.{zero_statement}
use Rattle.types.specs.Types.{is_typed, type_of, reference, clashes, value_clashes, statement_type_fault, statements_type_fault}
use Rattle.types.specs.Meaning.{Assignment, TypesFit}
use Rattle.types.proofs.Fitting.{fits-entity, fits-value}

-- no two verdicts of different numbers are one
pub numbers-differ : {A : Type 0} (v w : Verdict) → v ≡ w → (number_of v ≡ number_of w → ⊥) → A
numbers-differ v w e d = absurd (d (ap number_of e))

-- what three tests refuse at a place is refused there
tests-place : (a b c : Bool) (i : ℕ) (r : Refusal) → or_else (refuse_if a 52 i) (or_else (refuse_if b 51 i) (refuse_if c 52 i)) ≡ Err r → i ≡ r.place
tests-place true b c i r e = ap place_of e
tests-place false true c i r e = ap place_of e
tests-place false false true i r e = ap place_of e
tests-place false false false i r e = absurd (let z : ◌≡◌ {A = ℕ} 0 1 = cc in omega arith)

-- 51 is the second test's
tests-second : (a b c : Bool) (i p : ℕ) → or_else (refuse_if a 52 i) (or_else (refuse_if (not b) 51 i) (refuse_if c 52 i)) ≡ refused 51 p → b ≡ false
tests-second true b c i p e = numbers-differ _ _ e (λ q. omega arith)
tests-second false true true i p e = numbers-differ _ _ e (λ q. omega arith)
tests-second false true false i p e = numbers-differ _ _ e (λ q. omega arith)
tests-second false false c i p e = refl

-- and 52 is not
tests-others : (b : Bool) (i p : ℕ) → or_else (refuse_if b 51 i) (Ok tt) ≡ refused 52 p → ⊥
tests-others true i p e = numbers-differ _ _ e (λ q. omega arith)
tests-others false i p e = numbers-differ _ _ e (λ q. omega arith)

-- the statement that is refused: which one it is, counted from number i on, and that those before it are fine
pub record Stopped (table : List ℕ) (before ss : List Statement) (i : ℕ) (r : Refusal) : Type 0 where
  pub at : ℕ
  pub there : at < length ss
  pub place : r.place ≡ i + at
  pub fine_before : statements_type_fault table before (take at ss) i ≡ Ok tt
  pub this : statement_type_fault table (before ++ take at ss) (get_or ss at zero_statement) r.place ≡ Err r

module _ (table : List ℕ) where
  first-stopped : (before : List Statement) (s : Statement) (ss : List Statement) (i : ℕ) (r : Refusal) → statement_type_fault table before s i ≡ Err r
      → Stopped table before (s ∷ ss) i r
  unfolding statements_type_fault
  first-stopped before s ss i r e =
      let p : i ≡ r.place =
      tests-place (clashes table (before ++ (s ∷ [])) s.entity.0 reference) (not (is_typed table s.attribute.0))
      (value_clashes table (before ++ (s ∷ [])) s.value (type_of table s.attribute.0)) i r e in
      record {
        at = 0;
        there = omega arith;
        place = omega (arith, p);
        fine_before = refl;
        this = rw (append-nil before) (ap (λ (j : ℕ). statement_type_fault table before s j) (sym p) ∙ e);
      }

  later-stopped : (before : List Statement) (s : Statement) (ss : List Statement) (i : ℕ) (r : Refusal) → statement_type_fault table before s i ≡ Ok tt
      → Stopped table (before ++ (s ∷ [])) ss (i + 1) r → Stopped table before (s ∷ ss) i r
  unfolding statements_type_fault
  later-stopped before s ss i r f z = record {
    at = suc z.at;
    there = omega (arith, z.there);
    place = omega (arith, z.place);
    fine_before = rw f z.fine_before;
    this = rw (append_assoc before (s ∷ []) (take z.at ss)) at z.this;
  }

  pub stopped : (before ss : List Statement) (i : ℕ) (r : Refusal) → statements_type_fault table before ss i ≡ Err r → Stopped table before ss i r
  unfolding statements_type_fault
  stopped before [] i r e = absurd (let z : ◌≡◌ {A = ℕ} 0 1 = cc in omega arith)
  stopped before (s ∷ ss) i r e = go (statement_type_fault table before s i) refl e (stopped (before ++ (s ∷ [])) ss (i + 1) r)
    where
      go : (v : Verdict) → statement_type_fault table before s i ≡ v → or_else v (statements_type_fault table (before ++ (s ∷ [])) ss (i + 1)) ≡ Err r
          → (statements_type_fault table (before ++ (s ∷ [])) ss (i + 1) ≡ Err r → Stopped table (before ++ (s ∷ [])) ss (i + 1) r)
          → Stopped table before (s ∷ ss) i r
      go (Ok tt) f d rest = later-stopped before s ss i r f (rest d)
      go (Err x) f d rest = first-stopped before s ss i r (f ∙ d)

  module _ (before : List Statement) (s : Statement) (i p : ℕ) where
    -- 51: its attribute is not there
    pub missing-there : statement_type_fault table before s i ≡ refused 51 p → is_typed table s.attribute.0 ≡ false
    missing-there =
        tests-second (clashes table (before ++ (s ∷ [])) s.entity.0 reference) (is_typed table s.attribute.0)
        (value_clashes table (before ++ (s ∷ [])) s.value (type_of table s.attribute.0)) i p

    -- 52: no types fit it and the statements before it
    pub clash-unfit : statement_type_fault table before s i ≡ refused 52 p → (types : Assignment) → TypesFit table types (before ++ (s ∷ [])) → ⊥
    clash-unfit e types h =
        tests-others (not (is_typed table s.attribute.0)) i p
        (rw (fits-entity table before s types h, fits-value table before s types h) at e)
