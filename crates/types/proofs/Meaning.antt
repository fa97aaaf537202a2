-- What `infer_types` answers is what specs/Meaning.antt demands: where it is fine the types are those given, and a refusal is the first
-- statement's.
use mathlib.Core.Path.{◌≡◌, refl, sym, ◌∙◌}
use mathlib.Core.Logic.{⊎_elim}
use Prim.Native.Nat.{ℕ, ◌≤◌, ◌<◌}
use mathlib.Core.List.{List, []}
use mathlib.Core.Bool.{Bool, true, false, not}
use native.Mathlib.Numerals.{add-one}
use native.Mathlib.Omega.{arith}
use borrow.Author.Tests.{not-false}
use lib.ListN.{length, get_or, take, replicate, get_or-eq_default}
use lib.Seq.{take-suc}
use Rattle.capacity.specs.Capacity.{max_slots}
use Rattle.refusal.specs.Verdict.{Refusal, Verdict}
use Rattle.std.specs.Prelude.{Ok, Err}
use Rattle.refusal.specs.Verdict.{number_in, rule_of, refused, refuse_if, number_of, or_else, unless}
use Rattle.refusal.proofs.Fine.{refuse-fine, or-fine}
use Rattle.lists.specs.Tabled.{tabled}
use Rattle.lists.proofs.Tabled.{tabled-length, tabled-at}
use Rattle.lists.proofs.Padded.{padded-length}
use Rattle.tables.proofs.Order.{lt-or-ge}
use Rattle.query.specs.declared.Query.{Query}
use Rattle.query.specs.Query.{statements_of, zero_statement}
use Rattle.planner.specs.Refusals.{plan_fault}
use Rattle.planner.proofs.Numbers.{plan-within}
use Rattle.types.specs.Types.{is_table, type_given, statements_type_fault, types_fault, not_inferred, inferred_of}
use Rattle.types.specs.Meaning.{TypesFit, CanBeTyped, types_in, WellTyped, Missing, Clash, TypesDemanded}
use Rattle.types.proofs.Variables.{plannable, given-past, variables-named}
use Rattle.types.proofs.Answer.{zeros_past}
use Rattle.types.proofs.Fitting.{fits-same, fits-given, fits-fine, fine-fits}
use Rattle.types.proofs.Stopped.{numbers-differ, Stopped, stopped, missing-there, clash-unfit}

-- where some verdict is fine or refused, so is the answer
unless-verdict : (v : Verdict) (types : List ℕ) → (unless v not_inferred (record { verdict = Ok tt; types = types })).verdict ≡ v
unless-verdict (Ok tt) types = refl
unless-verdict (Err r) types = refl

unless-refused : (v : Verdict) (types : List ℕ) (r : Refusal) → v ≡ Err r
    → (unless v not_inferred (record { verdict = Ok tt; types = types })).types ≡ replicate max_slots 0
unless-refused (Ok tt) types r e = absurd (let z : ◌≡◌ {A = ℕ} 0 1 = cc in omega arith)
unless-refused (Err x) types r e = refl

-- a refusal over 50 is not planning's, and not the table's
beyond : (a : Verdict) (t : Bool) (b : Verdict) (n i : ℕ) → number_of a ≤ 16 → 50 < number_in (rule_of n) → or_else a (or_else (refuse_if t 50 0) b) ≡ refused n i → b ≡ refused n i
beyond (Ok tt) true b n i m h e = numbers-differ _ _ e (λ q. omega arith)
beyond (Ok tt) false b n i m h e = e
beyond (Err r) t b n i m h e = numbers-differ _ _ e (λ q. omega arith)

module _ (q : Query) (table : List ℕ) where
  verdict : (inferred_of q table).verdict ≡ types_fault q table
  unfolding inferred_of
  verdict = unless-verdict (types_fault q table) _

  -- no check refuses it
  pub record Passed : Type 0 where
    pub plans : plan_fault q ≡ Ok tt
    pub table_there : is_table table ≡ true
    pub statements_fine : statements_type_fault table [] (statements_of q) 0 ≡ Ok tt

  passed : (inferred_of q table).verdict ≡ Ok tt → Passed
  unfolding types_fault
  passed e =
      let f = or-fine (plan_fault q) _ (sym verdict ∙ e) in
      let g = or-fine (refuse_if (not (is_table table)) 50 0) _ f.1 in
      record { plans = f.0; table_there = not-false _ (refuse-fine _ _ _ g.0); statements_fine = g.1 }

  fine : Passed → types_fault q table ≡ Ok tt
  unfolding types_fault
  fine p = simp (p.plans, p.table_there) p.statements_fine

  -- then the types are those given
  types-given : Passed → (v : ℕ) → types_in (inferred_of q table).types v ≡ type_given table (statements_of q) v
  unfolding inferred_of
  types-given p v =
      let f = type_given table (statements_of q) in
      let past = given-past q p.plans table in
      rw (fine p, ← zeros_past f q.variable_count max_slots past)
      (⊎_elim (λ (l : v < max_slots). tabled-at f max_slots v 0 l)
      (λ (l : max_slots ≤ v).
      get_or-eq_default (tabled f max_slots) 0 (rw (tabled-length f max_slots) l) ∙
      sym (past v (omega (arith, (plannable q p.plans).few_slots))))
      (lt-or-ge v max_slots))

  types_long : Passed → length (inferred_of q table).types ≡ max_slots
  unfolding inferred_of
  types_long p = rw (fine p) (padded-length 0 max_slots (tabled (type_given table (statements_of q)) q.variable_count))

  types-fit : Passed → TypesFit table (types_in (inferred_of q table).types) (statements_of q)
  types-fit p = fits-same table _ _ (λ v. sym (types-given p v)) (statements_of q) (fine-fits table [] (statements_of q) 0 p.statements_fine).1

  typable : (inferred_of q table).verdict ≡ Ok tt → CanBeTyped q table
  typable e =
      let p = passed e in
      record {
        plannable = p.plans;
        ascends = p.table_there;
        attributes_there = (fine-fits table [] (statements_of q) 0 p.statements_fine).0;
        types = types_in (inferred_of q table).types;
        fits = types-fit p;
      }

  answered : CanBeTyped q table → (inferred_of q table).verdict ≡ Ok tt
  answered c =
      verdict ∙
      fine
      (record {
        plans = c.plannable;
        table_there = c.ascends;
        statements_fine = fits-fine table c.types [] (statements_of q) 0 c.fits c.attributes_there;
      })

  well_typed : (inferred_of q table).verdict ≡ Ok tt → WellTyped q table (inferred_of q table).types
  well_typed e =
      let p = passed e in
      record {
        fits = types-fit p;
        one_type = λ other h v l. sym (types-given p v ∙ fits-given table other (statements_of q) h v (variables-named q p.plans v l));
        zeros_past = λ v l. types-given p v ∙ given-past q p.plans table v l;
        as_long = types_long p;
      }

  -- a refusal over 50 is a statement's
  at-statement : (n i : ℕ) → 50 < number_in (rule_of n) → (inferred_of q table).verdict ≡ refused n i → Stopped table [] (statements_of q) 0 (record { rule = rule_of n; place = i })
  unfolding types_fault
  at-statement n i h e = stopped table [] (statements_of q) 0 _ (beyond (plan_fault q) (not (is_table table)) _ n i (plan-within 16 (omega arith) q) h (sym verdict ∙ e))

  missing : (i : ℕ) → (inferred_of q table).verdict ≡ refused 51 i → Missing q table i
  missing i e =
      let z = at-statement 51 i (omega arith) e in
      let p : z.at ≡ i = omega (arith, z.place) in
      record {
        statement_there = omega (arith, z.there);
        attribute_missing = rw p at (missing-there table (take z.at (statements_of q)) (get_or (statements_of q) z.at zero_statement) i i z.this);
        attributes_before = rw p at (fine-fits table [] (take z.at (statements_of q)) 0 z.fine_before).0;
      }

  clash : (i : ℕ) → (inferred_of q table).verdict ≡ refused 52 i → Clash q table i
  clash i e =
      let z = at-statement 52 i (omega arith) e in
      let p : z.at ≡ i = omega (arith, z.place) in
      record {
        statement_there = omega (arith, z.there);
        types_before = type_given table (take i (statements_of q));
        before_fits = rw p at (fine-fits table [] (take z.at (statements_of q)) 0 z.fine_before).1;
        none_fits = λ types h.
            clash-unfit table (take z.at (statements_of q)) (get_or (statements_of q) z.at zero_statement) i i z.this types
            (rw p (rw (add-one, take-suc (statements_of q) i zero_statement (omega (arith, z.there))) at h));
      }

  zeros : (x : Refusal) → (inferred_of q table).verdict ≡ Err x → (inferred_of q table).types ≡ replicate max_slots 0
  unfolding inferred_of
  zeros x e = unless-refused (types_fault q table) _ x (sym verdict ∙ e)

  pub types-demanded : TypesDemanded q table (inferred_of q table)
  types-demanded = record {
    answered = answered;
    typed = typable;
    well_typed = well_typed;
    missing = missing;
    clash = clash;
    zeros_refused = zeros;
  }
