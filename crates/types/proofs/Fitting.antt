-- Types that fit statements are the types given, on the variables that the statements name: so nothing clashes where some types fit, and
-- where nothing clashes the types given fit.
use mathlib.Core.Path.{◌≡◌, refl, sym, ◌∙◌}
use Prim.Native.Nat.{ℕ, ◌+◌}
use mathlib.Core.List.{List, [], ◌∷◌, ◌++◌, append_assoc}
use mathlib.Core.Bool.{Bool, true, false, not, ◌||◌, cond, or-true, false≢true}
use borrow.Author.Tests.{eqb-true, eq-eqb, not-false}
use lib.Dec.{eqb}
use Rattle.std.specs.Prelude.{Ok}
use Rattle.refusal.specs.Verdict.{refuse_if}
use Rattle.refusal.proofs.Fine.{or-fine, refuse-fine}
use Rattle.query.specs.declared.QueryValue.{QueryValue}
use Rattle.query.specs.declared.QueryValue.TheVariants.{Const, Var as Variable}
use Rattle.query.specs.declared.Statement.{Statement}
use Rattle.query.specs.Query.{is_variable, named}
use Rattle.planner.proofs.Statements.{named_more}
use Rattle.types.specs.Types.{is_typed, type_of, reference, type_given, clashes, value_clashes, statement_type_fault, statements_type_fault}
use Rattle.types.specs.Meaning.{Assignment, ValueFits, StatementFits, TypesFit, AllTyped}
use Rattle.types.proofs.Given.{given-front}

-- of three tests one holds, and each that holds gives a
choice : (p q r : Bool) (t g a : ℕ) → ((p || q) || r) ≡ true → (p ≡ true → 0 ≡ a) → (q ≡ true → t ≡ a) → (r ≡ true → g ≡ a) → cond p 0 (cond q t g) ≡ a
choice true q r t g a e x y z = x refl
choice false true r t g a e x y z = y refl
choice false false r t g a e x y z = z e

module _ (table : List ℕ) where
  -- one assignment for another that says the same
  pub fits-same : (f g : Assignment) → ((v : ℕ) → f v ≡ g v) → (l : List Statement) → TypesFit table f l → TypesFit table g l
  unfolding TypesFit
  fits-same f g e [] h = tt
  fits-same f g e (s ∷ l) h =
      (record { entity_fits = sym (e s.entity.0) ∙ h.0.entity_fits; value_fits = value s.value h.0.value_fits }, fits-same f g e l h.1)
    where
      value : (q : QueryValue) → ValueFits f q (type_of table s.attribute.0) → ValueFits g q (type_of table s.attribute.0)
      value (Const c) d = tt
      value (Variable x) d = sym (e x.0) ∙ d

  module _ (types : Assignment) where
    -- the front of statements, and the last
    pub fits-front : (l m : List Statement) → TypesFit table types (l ++ m) → TypesFit table types l
    unfolding TypesFit
    fits-front [] m h = tt
    fits-front (s ∷ l) m h = (h.0, fits-front l m h.1)

    fits_last : (l : List Statement) (s : Statement) → TypesFit table types (l ++ (s ∷ [])) → StatementFits table types s
    unfolding TypesFit
    fits_last [] s h = h.0
    fits_last (b ∷ l) s h = fits_last l s h.1

    value-given : (q : QueryValue) (t : ℕ) → ValueFits types q t → (v : ℕ) → is_variable q v ≡ true → t ≡ types v
    value-given (Const c) t h v e = absurd (false≢true e)
    value-given (Variable x) t h v e = let q : x.0 ≡ v = eqb-true _ _ e in rw (← q) (sym h)

    -- types that fit are the types given
    pub fits-given : (l : List Statement) → TypesFit table types l → (v : ℕ) → named l v ≡ true → type_given table l v ≡ types v
    unfolding TypesFit type_given named
    fits-given [] h v e = absurd (false≢true e)
    fits-given (s ∷ l) h v e =
        choice (eqb s.entity.0 v) (is_variable s.value v) (named l v) (type_of table s.attribute.0) (type_given table l v) (types v) e
        (λ d. let q : s.entity.0 ≡ v = eqb-true _ _ d in rw (← q) (sym h.0.entity_fits))
        (value-given s.value (type_of table s.attribute.0) h.0.value_fits v)
        (fits-given l h.1 v)

  module _ (before : List Statement) (s : Statement) where
    -- a statement's variables are named
    entity-named : named (before ++ (s ∷ [])) s.entity.0 ≡ true
    entity-named = rw (named_more before s s.entity.0, eq-eqb s.entity.0 s.entity.0 refl) (or-true (named before s.entity.0))

    value-named : (v : ℕ) → is_variable s.value v ≡ true → named (before ++ (s ∷ [])) v ≡ true
    value-named v e = rw (named_more before s v, e, or-true (eqb s.entity.0 v)) (or-true (named before v))

    -- where types fit, neither use clashes
    module _ (types : Assignment) (h : TypesFit table types (before ++ (s ∷ []))) where
      pub fits-entity : clashes table (before ++ (s ∷ [])) s.entity.0 reference ≡ false
      fits-entity =
          let g = fits-given types (before ++ (s ∷ [])) h s.entity.0 entity-named ∙ (fits_last types before s h).entity_fits in
          rw g

      fits-value-as : (q : QueryValue) → s.value ≡ q → ValueFits types q (type_of table s.attribute.0)
          → value_clashes table (before ++ (s ∷ [])) q (type_of table s.attribute.0) ≡ false
      fits-value-as (Const c) p f = refl
      fits-value-as (Variable x) p f =
          let n = value-named x.0 (rw p (eq-eqb x.0 x.0 refl)) in
          rw (fits-given types (before ++ (s ∷ [])) h x.0 n ∙ f, eq-eqb (type_of table s.attribute.0) (type_of table s.attribute.0) refl)

      pub fits-value : value_clashes table (before ++ (s ∷ [])) s.value (type_of table s.attribute.0) ≡ false
      fits-value = fits-value-as s.value refl (fits_last types before s h).value_fits

    -- where neither clashes, the types given fit the statement, whatever follows it
    module _ (i : ℕ) (fine : statement_type_fault table before s i ≡ Ok tt) where
      pub fine-typed : is_typed table s.attribute.0 ≡ true
      fine-typed =
          let f = or-fine (refuse_if (clashes table (before ++ (s ∷ [])) s.entity.0 reference) 52 i) _ fine in
          not-false _ (refuse-fine _ _ _ (or-fine (refuse_if (not (is_typed table s.attribute.0)) 51 i) _ f.1).0)

      given-value : (rest : List Statement) (q : QueryValue) → s.value ≡ q
          → value_clashes table (before ++ (s ∷ [])) q (type_of table s.attribute.0) ≡ false
          → ValueFits (type_given table ((before ++ (s ∷ [])) ++ rest)) q (type_of table s.attribute.0)
      given-value rest (Const c) p e = tt
      given-value rest (Variable x) p e =
          given-front table (before ++ (s ∷ [])) rest x.0 (value-named x.0 (rw p (eq-eqb x.0 x.0 refl))) ∙ eqb-true _ _ (not-false _ e)

      pub given-fits : (rest : List Statement) → StatementFits table (type_given table ((before ++ (s ∷ [])) ++ rest)) s
      given-fits rest =
          let f = or-fine (refuse_if (clashes table (before ++ (s ∷ [])) s.entity.0 reference) 52 i) _ fine in
          let g = or-fine (refuse_if (not (is_typed table s.attribute.0)) 51 i) _ f.1 in
          record {
            entity_fits = given-front table (before ++ (s ∷ [])) rest s.entity.0 entity-named ∙ eqb-true _ _ (not-false _ (refuse-fine _ _ _ f.0));
            value_fits = given-value rest s.value refl (refuse-fine _ _ _ g.1);
          }

  -- so of all statements: none is refused where their attributes are there and some types fit
  pub fits-fine : (types : Assignment) (before ss : List Statement) (i : ℕ) → TypesFit table types (before ++ ss) → AllTyped table ss
      → statements_type_fault table before ss i ≡ Ok tt
  unfolding statements_type_fault AllTyped
  fits-fine types before [] i h a = refl
  fits-fine types before (s ∷ ss) i h a =
      let j : TypesFit table types ((before ++ (s ∷ [])) ++ ss) = rw (append_assoc before (s ∷ []) ss) h in
      let f = fits-front types (before ++ (s ∷ [])) ss j in
      rw (fits-entity before s types f, fits-value before s types f, a.0) (fits-fine types (before ++ (s ∷ [])) ss (i + 1) j a.1)

  -- and where none is refused, the attributes are there and the types given fit
  pub fine-fits : (before ss : List Statement) (i : ℕ) → statements_type_fault table before ss i ≡ Ok tt
      → AllTyped table ss × TypesFit table (type_given table (before ++ ss)) ss
  unfolding statements_type_fault AllTyped TypesFit
  fine-fits before [] i e = (tt, tt)
  fine-fits before (s ∷ ss) i e =
      let f = or-fine (statement_type_fault table before s i) _ e in
      let r = fine-fits (before ++ (s ∷ [])) ss (i + 1) f.1 in
      let w = append_assoc before (s ∷ []) ss in
      ((fine-typed before s i f.0, r.0), (rw w at (given-fits before s i f.0 ss), rw w at r.1))
