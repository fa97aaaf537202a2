-- The array tracks the statements so far: which variables they name, and what types they give these; so it decides as the definitions do.
use mathlib.Core.Path.{◌≡◌, refl, sym, ◌∙◌}
use Prim.Native.Nat.{ℕ, ◌<◌}
use mathlib.Core.List.{List, [], ◌∷◌, ◌++◌}
use mathlib.Core.Bool.{Bool, true, false, not, ◌||◌, cond}
use native.Mathlib.Omega.{arith}
use borrow.Author.Tests.{eqb-true, eqb-false, eq-eqb}
use lib.ListN.{length, get_or, replicate, length-set, length-replicate, get_or-replicate}
use lib.Seq.{get_or-set_same, get_or-set_other}
use lib.Dec.{eqb}
use Rattle.capacity.specs.Capacity.{max_slots}
use Rattle.std.specs.Prelude.{Option, Some, None, unwrap_or}
use Rattle.refusal.specs.Verdict.{refuse_if, or_else}
use Rattle.query.specs.declared.QueryValue.{QueryValue}
use Rattle.query.specs.declared.QueryValue.TheVariants.{Const, Var as Variable}
use Rattle.query.specs.declared.Statement.{Statement}
use Rattle.query.specs.Query.{is_variable, named}
use Rattle.query_check.specs.Below.{ValueBelow, Below}
use Rattle.planner.proofs.Statements.{named_more}
use Rattle.types.specs.Types.{is_typed, type_of, reference, type_given, clashes, value_clashes, statement_type_fault}
use Rattle.types.specs.Record.{found_in, type_in, unifies_in, value_unifies_in, with_type_in, with_value_in, value_type_fault_in, statement_type_fault_in, with_statement_in}
use Rattle.types.proofs.Given.{given-more}

-- the array says which variables are known, and their types
pub record Tracks (k : List (Option ℕ)) (known : ℕ → Bool) (given : ℕ → ℕ) : Type 0 where
  pub long : length k ≡ max_slots
  pub says : (v : ℕ) → v < max_slots → get_or k v None ≡ cond (known v) (Some (given v)) None

-- at first none is
pub tracks-none : (table : List ℕ) → Tracks (replicate max_slots None) (named []) (type_given table [])
unfolding named type_given
tracks-none table = record { long = length-replicate {A = Option ℕ} max_slots None; says = λ v h. get_or-replicate {A = Option ℕ} max_slots v None None h }

-- a use of a variable as type t: n is whether it is known, g its type if it is
used : (n : Bool) (g t : ℕ) → Some (unwrap_or (cond n (Some g) None) t) ≡ cond (n || true) (Some (cond n g t)) None
used true g t = refl
used false g t = refl

unused : (n : Bool) (g t : ℕ) → cond n (Some g) None ≡ cond (n || false) (Some (cond n g t)) None
unused true g t = refl
unused false g t = refl

-- a variable more
variable-tracks : {k : List (Option ℕ)} {known : ℕ → Bool} {given : ℕ → ℕ} → Tracks k known given → (x t : ℕ)
    → Tracks (with_type_in k x t) (λ v. known v || eqb x v) (λ v. cond (known v) (given v) t)
variable-tracks {k} {known} {given} r x t = record {
  long = simp length-set r.long;
  says = λ v h. says v h (eqb x v) refl;
}
  where
    says : (v : ℕ) → v < max_slots → (b : Bool) → eqb x v ≡ b → get_or (with_type_in k x t) v None ≡ cond (known v || eqb x v) (Some (cond (known v) (given v) t)) None
    says v h true e =
        let q : x ≡ v = eqb-true _ _ e in
        rw (e, q) (get_or-set_same k v (Some (type_in k v t)) None (omega (arith, r.long)) ∙ rw (r.says v h) (used (known v) (given v) t))
    says v h false e =
        rw e (get_or-set_other k x v (Some (type_in k x t)) None (λ q. eqb-false _ _ e (sym q)) ∙ r.says v h ∙ unused (known v) (given v) t)

value-tracks : {k : List (Option ℕ)} {known : ℕ → Bool} {given : ℕ → ℕ} → Tracks k known given → (q : QueryValue) (t : ℕ)
    → Tracks (with_value_in k q t) (λ v. known v || is_variable q v) (λ v. cond (known v) (given v) t)
value-tracks {known = known} {given = given} r (Const c) t = record { long = r.long; says = λ v h. r.says v h ∙ unused (known v) (given v) t }
value-tracks r (Variable x) t = variable-tracks r x.0 t

-- what the uses of a statement find and leave: d is whether the statement's entity is this variable, w whether its value is
entity-use : (n : Bool) (g t : ℕ) → cond n g t ≡ unwrap_or (cond n (Some g) None) t
entity-use true g t = refl
entity-use false g t = refl

value-use : (n d : Bool) (g t : ℕ) → cond n g (cond d 0 t) ≡ unwrap_or (cond (n || d) (Some (cond n g 0)) None) t
value-use true d g t = refl
value-use false true g t = refl
value-use false false g t = refl

uses-leave : (n d w : Bool) (g t : ℕ)
    → cond ((n || d) || w) (Some (cond (n || d) (cond n g 0) t)) None ≡ cond (n || (d || w)) (Some (cond n g (cond d 0 (cond w t 0)))) None
uses-leave true d w g t = refl
uses-leave false true w g t = refl
uses-leave false false true g t = refl
uses-leave false false false g t = refl

module _ (table : List ℕ) (before : List Statement) {k : List (Option ℕ)} (r : Tracks k (named before) (type_given table before)) (s : Statement) (low : Below max_slots s) where
  -- the test of the entity
  entity-decides : clashes table (before ++ (s ∷ [])) s.entity.0 reference ≡ not (unifies_in k s.entity.0 reference)
  unfolding type_given
  entity-decides =
      let e = s.entity.0 in
      rw (given-more table before s e, eq-eqb e e refl, r.says e low.entity_below, entity-use (named before e) (type_given table before e) 0)

  -- the test of the value
  value-decides : (q : QueryValue) → s.value ≡ q → ValueBelow max_slots q
      → value_clashes table (before ++ (s ∷ [])) q (type_of table s.attribute.0)
      ≡ not (value_unifies_in (with_type_in k s.entity.0 reference) q (type_of table s.attribute.0))
  unfolding type_given
  value-decides (Const c) p b = refl
  value-decides (Variable x) p b =
      let u = variable-tracks r s.entity.0 reference in
      rw (
        given-more table before s x.0,
        p,
        eq-eqb x.0 x.0 refl,
        u.says x.0 b,
        value-use (named before x.0) (eqb s.entity.0 x.0) (type_given table before x.0) (type_of table s.attribute.0),
      )

  -- so a statement is refused as by the definition
  pub tracks-fault : (i : ℕ) → statement_type_fault_in k s (found_in table s.attribute.0) i ≡ statement_type_fault table before s i
  unfolding statement_type_fault_in
  tracks-fault i = rw (entity-decides, value-decides s.value refl low.value_below) (go (is_typed table s.attribute.0))
    where
      go : (b : Bool) → or_else (refuse_if (not (unifies_in k s.entity.0 reference)) 52 i)
          (value_type_fault_in (with_type_in k s.entity.0 reference) s.value (cond b (Some (type_of table s.attribute.0)) None) i)
          ≡ or_else (refuse_if (not (unifies_in k s.entity.0 reference)) 52 i)
          (or_else (refuse_if (not b) 51 i) (refuse_if (not (value_unifies_in (with_type_in k s.entity.0 reference) s.value (type_of table s.attribute.0))) 52 i))
      go true = refl
      go false = refl

  -- and a statement more
  pub tracks-more : Tracks (with_statement_in k s (type_of table s.attribute.0)) (named (before ++ (s ∷ []))) (type_given table (before ++ (s ∷ [])))
  unfolding with_statement_in type_given
  tracks-more =
      let e = s.entity.0 in
      let t = type_of table s.attribute.0 in
      let u = value-tracks (variable-tracks r e reference) s.value t in
      record {
        long = u.long;
        says =
            λ v h.
            u.says v h ∙
            rw (named_more before s v, given-more table before s v)
            (uses-leave (named before v) (eqb e v) (is_variable s.value v) (type_given table before v) t);
      }
