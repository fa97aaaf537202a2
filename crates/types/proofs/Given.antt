-- The type that statements give a variable: what one statement more gives, and the variables that none names.
use mathlib.Core.Path.{◌≡◌, refl}
use Prim.Native.Nat.{ℕ}
use mathlib.Core.List.{List, [], ◌∷◌, ◌++◌}
use mathlib.Core.Bool.{Bool, true, false, ◌||◌, cond, false≢true}
use lib.Dec.{eqb}
use Rattle.lists.proofs.Tests.{neither}
use Rattle.query.specs.declared.Statement.{Statement}
use Rattle.query.specs.Query.{is_variable, names, named}
use Rattle.types.specs.Types.{type_of, reference, type_given}

-- of three tests the first that holds chooses
first : (p q r : Bool) (a b c d : ℕ) → cond p a (cond q b (cond r c d)) ≡ cond ((p || q) || r) (cond p a (cond q b c)) d
first true q r a b c d = refl
first false true r a b c d = refl
first false false true a b c d = refl
first false false false a b c d = refl

-- where one of them does, what comes last matters only if the first two do not
chosen : (p q r : Bool) (a b c d : ℕ) → ((p || q) || r) ≡ true → (r ≡ true → c ≡ d) → cond p a (cond q b c) ≡ cond p a (cond q b d)
chosen true q r a b c d e f = refl
chosen false true r a b c d e f = refl
chosen false false r a b c d e f = f e

module _ (table : List ℕ) where
  -- a variable that no statement names
  pub given-unnamed : (l : List Statement) (v : ℕ) → named l v ≡ false → type_given table l v ≡ 0
  unfolding type_given named
  given-unnamed [] v e = refl
  given-unnamed (s ∷ l) v e =
      let o = neither (names s v) (named l v) e in
      let n = neither (eqb s.entity.0 v) (is_variable s.value v) o.0 in
      simp (n.0, n.1) (given-unnamed l v o.1)

  -- one that a statement more names has the type of those before, if they name it
  pub given-more : (l : List Statement) (s : Statement) (v : ℕ)
      → type_given table (l ++ (s ∷ [])) v ≡ cond (named l v) (type_given table l v) (type_given table (s ∷ []) v)
  unfolding type_given named
  given-more [] s v = refl
  given-more (b ∷ l) s v =
      rw (given-more l s v)
      (first (eqb b.entity.0 v) (is_variable b.value v) (named l v) reference (type_of table b.attribute.0) (type_given table l v) (type_given table (s ∷ []) v))

  -- the same of any statements that follow
  pub given-front : (l m : List Statement) (v : ℕ) → named l v ≡ true → type_given table (l ++ m) v ≡ type_given table l v
  unfolding type_given named
  given-front [] m v e = absurd (false≢true e)
  given-front (b ∷ l) m v e =
      chosen (eqb b.entity.0 v) (is_variable b.value v) (named l v) reference (type_of table b.attribute.0) (type_given table (l ++ m) v) (type_given table l v) e
      (given-front l m v)
