-- The record tracks `named`: its entry for a variable says whether a statement so far names it; so it decides as the definitions do.
use mathlib.Core.Path.{◌≡◌, refl, sym, ap, ◌∙◌}
use Prim.Native.Nat.{ℕ, ◌<◌}
use mathlib.Core.List.{List, [], ◌∷◌, ◌++◌}
use mathlib.Core.Bool.{Bool, true, false, not, ◌||◌, ◌&&◌, or-false, or-true, or_assoc}
use native.Mathlib.Omega.{arith}
use borrow.Author.Tests.{eqb-true, eqb-false}
use lib.ListN.{length, get_or, set, replicate, length-set, length-replicate, get_or-replicate}
use lib.Seq.{get_or-set_same, get_or-set_other}
use lib.Dec.{eqb}
use Rattle.capacity.specs.Capacity.{max_slots}
use Rattle.query.specs.declared.QueryValue.{QueryValue}
use Rattle.query.specs.declared.QueryValue.TheVariants.{Const, Var as Variable}
use Rattle.query.specs.declared.Statement.{Statement}
use Rattle.query.specs.Query.{is_variable, named}
use Rattle.query_check.specs.Below.{ValueBelow, Below}
use Rattle.planner.specs.Refusals.{binds_twice}
use Rattle.planner.specs.Planning.{is_value_set, scan_of}
use Rattle.planner.specs.Record.{is_value_set_in, binds_twice_in, scan_in, value_record, statement_record}
use Rattle.planner.proofs.Statements.{named_more}

-- the record's entries say what f says
pub record Tracks (rec : List Bool) (f : ℕ → Bool) : Type 0 where
  pub long : length rec ≡ max_slots
  pub says : (v : ℕ) → v < max_slots → get_or rec v false ≡ f v

-- at first nothing is set
pub tracks-none : Tracks (replicate max_slots false) (named [])
unfolding named
tracks-none = record { long = length-replicate max_slots false; says = λ v h. get_or-replicate max_slots v false false h }

-- a variable more
variable-tracks : {rec : List Bool} {f : ℕ → Bool} → Tracks rec f → (x : ℕ) → Tracks (set rec x true) (λ v. f v || eqb x v)
variable-tracks {rec} {f} t x = record { long = simp length-set t.long; says = λ v h. go v h (eqb x v) refl }
  where
    go : (v : ℕ) → v < max_slots → (b : Bool) → eqb x v ≡ b → get_or (set rec x true) v false ≡ (f v || eqb x v)
    go v h true e = let q : x ≡ v = eqb-true _ _ e in rw (e, or-true (f v), q) (get_or-set_same rec v true false (omega (arith, t.long)))
    go v h false e = rw (e, or-false (f v), get_or-set_other rec x v true false (λ q. eqb-false _ _ e (sym q))) (t.says v h)

value-tracks : {rec : List Bool} {f : ℕ → Bool} → Tracks rec f → (q : QueryValue) → Tracks (value_record rec q) (λ v. f v || is_variable q v)
value-tracks {rec} {f} t (Const c) = record { long = t.long; says = λ v h. rw (or-false (f v)) (t.says v h) }
value-tracks t (Variable x) = variable-tracks t x.0

module _ (before : List Statement) {rec : List Bool} (t : Tracks rec (named before)) (s : Statement) where
  -- a statement more
  pub tracks-more : Tracks (statement_record rec s) (named (before ++ (s ∷ [])))
  unfolding statement_record
  tracks-more =
      let u = value-tracks (variable-tracks t s.entity.0) s.value in
      record { long = u.long; says = λ v h. u.says v h ∙ sym (named_more before s v ∙ sym (or_assoc (named before v) (eqb s.entity.0 v) (is_variable s.value v))) }

  module _ (low : Below max_slots s) where
    -- whether the statement binds one variable twice
    pub tracks-bound : binds_twice_in rec s ≡ binds_twice before s
    tracks-bound = ap (λ (b : Bool). is_variable s.value s.entity.0 && not b) (t.says s.entity.0 low.entity_below)

    value_set : (q : QueryValue) → ValueBelow max_slots q → is_value_set_in rec q ≡ is_value_set before q
    value_set (Const c) l = refl
    value_set (Variable x) l = t.says x.0 l

    -- and its scan
    pub tracks-scan : (k : ℕ) → scan_in rec s k ≡ scan_of before s k
    unfolding scan_in scan_of
    tracks-scan k = rw (t.says s.entity.0 low.entity_below, value_set s.value low.value_below)
