-- What `infer_statements` has done after i statements, and what one more does.
use mathlib.Core.Path.{◌≡◌, refl, sym, ◌∙◌}
use Prim.Native.Nat.{ℕ, ◌+◌, ◌≤◌, ◌<◌}
use mathlib.Core.List.{List, [], ◌∷◌, ◌++◌}
use native.Mathlib.Numerals.{add-one}
use native.Mathlib.Omega.{arith}
use lib.ListN.{length, get_or, take, drop, replicate, drop_of_length-le}
use lib.Seq.{take-suc, take_all, drop-cons}
use mathlib.Core.Bool.{Bool, true, false, cond}
use Rattle.capacity.specs.Capacity.{max_slots}
use Rattle.std.specs.Prelude.{Ok, Err, Option, Some, None, unwrap_or}
use Rattle.refusal.specs.Verdict.{Refusal, answer}
use Rattle.lists.specs.Tabled.{tabled}
use Rattle.lists.proofs.Tabled.{tabled-same}
use Rattle.query.specs.declared.Statement.{Statement}
use Rattle.query.specs.Query.{named, zero_statement}
use Rattle.types.specs.Types.{type_of, type_given, statement_type_fault, statements_type_fault}
use Rattle.types.specs.Record.{Typable, found_in, statement_type_fault_in, with_statement_in, inferred_from}
use Rattle.types.proofs.Given.{given-unnamed}
use Rattle.types.proofs.Tracks.{Tracks, tracks-none, tracks-fault, tracks-more}

-- after i statements: what the array says, and that none of them is refused
pub record Begun (ss : List Statement) (table : List ℕ) (k : List (Option ℕ)) (i : ℕ) : Type 0 where
  pub within : i ≤ length ss
  pub tracks : Tracks k (named (take i ss)) (type_given table (take i ss))
  pub fine : statements_type_fault table [] ss 0 ≡ statements_type_fault table (take i ss) (drop i ss) i

module _ (ss : List Statement) (table : List ℕ) (fits : Typable ss table) where
  pub begun-none : Begun ss table (replicate max_slots None) 0
  begun-none = record { within = omega arith; tracks = tracks-none table; fine = refl }

  module _ {k : List (Option ℕ)} {i : ℕ} (b : Begun ss table k i) where
    -- past the last statement the types are there
    pub begun_all : (types : List ℕ) → length types ≡ max_slots → ((v : ℕ) → v < max_slots → get_or types v 0 ≡ unwrap_or (get_or k v None) 0) → length ss ≤ i
        → Ok types ≡ answer (inferred_from ss table).verdict (inferred_from ss table).types
    unfolding inferred_from statements_type_fault
    begun_all types long each h =
        let e : i ≡ length ss = omega (arith, b.within) in
        let whole : take i ss ≡ ss = take_all i ss h in
        let f : statements_type_fault table [] ss 0 ≡ Ok tt = b.fine ∙ rw (drop_of_length-le ss h) refl in
        let t : tabled (type_given table ss) max_slots ≡ types = tabled-same (type_given table ss) types 0 max_slots long (λ v l. sym (each v l ∙ rw (b.tracks.says v l, whole) (given v (named ss v) refl))) in
        rw (f, t) refl
      where
        given : (v : ℕ) (n : Bool) → named ss v ≡ n → unwrap_or (cond n (Some (type_given table ss v)) None) 0 ≡ type_given table ss v
        given v true e = refl
        given v false e = sym (given-unnamed table ss v e)

    module _ (h : i < length ss) where
      abbrev this : Statement
      this = get_or ss i zero_statement

      front : take (i + 1) ss ≡ take i ss ++ (this ∷ [])
      front = rw add-one (take-suc ss i zero_statement h)

      fault : statement_type_fault_in k this (found_in table this.attribute.0) i ≡ statement_type_fault table (take i ss) this i
      fault = tracks-fault table (take i ss) b.tracks this (fits.low i h) i

      turn : statements_type_fault table [] ss 0 ≡ statements_type_fault table (take i ss) (this ∷ drop (i + 1) ss) i
      turn = rw add-one (rw (drop-cons ss i zero_statement h) at b.fine)

      -- a statement that is refused
      pub begun-refused : (r : Refusal) → statement_type_fault_in k this (found_in table this.attribute.0) i ≡ Err r
          → Err r ≡ answer (inferred_from ss table).verdict (inferred_from ss table).types
      unfolding inferred_from statements_type_fault
      begun-refused r e = let f : statements_type_fault table [] ss 0 ≡ Err r = turn ∙ rw (sym fault ∙ e) in rw f refl

      -- any other gives its variables their types
      pub begun_more : statement_type_fault_in k this (found_in table this.attribute.0) i ≡ Ok tt
          → Begun ss table (with_statement_in k this (type_of table this.attribute.0)) (i + 1)
      unfolding statements_type_fault
      begun_more e =
          let f = sym fault ∙ e in
          record {
            within = omega arith;
            tracks = rw front (tracks-more table (take i ss) b.tracks this (fits.low i h));
            fine = rw front (turn ∙ rw f);
          }
