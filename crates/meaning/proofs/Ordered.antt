-- A query with its statements in a sound order: it is as clear of refusals, and the same assignments make its statements facts, for none of
-- them is not one, and an order keeps how many are not. So what shows its assignments shows those of the query as given.
use mathlib.Core.Path.{◌≡◌, refl, sym, ap, ◌∙◌}
use mathlib.Core.Bool.{Bool, true, false, not, ◌&&◌}
use mathlib.Core.List.{List, [], ◌∷◌}
use Prim.Native.Nat.{ℕ, ◌+◌}
use native.Mathlib.Omega.{arith}
use native.Mathlib.Nat.{zero-add}
use borrow.Author.Tests.{ne_eqb}
use lib.Dec.{eqb}
use Rattle.capacity.specs.Capacity.{max_statements}
use Rattle.std.specs.Prelude.{Ok}
use Rattle.lists.proofs.Padded.{padded-length}
use Rattle.orders.specs.Lists.{one}
use Rattle.query.specs.declared.Statement.{Statement}
use Rattle.query.specs.declared.Query.{Query}
use Rattle.query.specs.Query.{statements_of, zero_statement}
use Rattle.query_check.specs.Clear.{Clear}
use Rattle.plan.specs.declared.Plan.{Plan}
use Rattle.planner.specs.Planning.{plan_of}
use Rattle.planned.proofs.Passes.{plan-verdict}
use Rattle.search.specs.Search.{arranged, arranged_query}
use Rattle.search.proofs.Arranged.{many, many-order}
use Rattle.search.proofs.Fresh.{statements-ordered, arranged-statements, arranged-fine, arranged-fault}
use Rattle.visits.specs.Visits.{Tables, row_list}
use Rattle.meaning.specs.Demand.{is_fact, stated, are_facts, Meaning, Shown, SoundOrder}
use Rattle.meaning.proofs.Sound.{without-fine}

-- the statements are facts if none is not
facts-none : (ts : Tables) (ss : List Statement) (a : List ℕ) → are_facts ts ss a ≡ eqb (many (λ s. not (is_fact ts (stated a s))) ss) 0
unfolding are_facts many
facts-none ts [] a = refl
facts-none ts (s ∷ ss) a = go (is_fact ts (stated a s)) (facts-none ts ss a)
  where
    go : (b : Bool) → are_facts ts ss a ≡ eqb (many (λ s. not (is_fact ts (stated a s))) ss) 0
        → (b && are_facts ts ss a) ≡ eqb (one (not b) + many (λ s. not (is_fact ts (stated a s))) ss) 0
    go true r = r ∙ ap (λ (n : ℕ). eqb n 0) (sym (zero-add (many (λ s. not (is_fact ts (stated a s))) ss)))
    go false r = let m = many (λ s. not (is_fact ts (stated a s))) ss in sym (ne_eqb (1 + m) 0 (λ e. omega arith))

module _ (q : Query) (clear : Clear q) (o : List ℕ) (sound : SoundOrder q o) where
  pub ordered-statements : statements_of (arranged_query q o) ≡ arranged (statements_of q) o
  ordered-statements = arranged-statements q clear.statements_sized clear.fine o sound.order

  pub ordered-clear : Clear (arranged_query q o)
  ordered-clear = record {
    statements_sized = padded-length zero_statement max_statements (arranged (statements_of q) o);
    selects_sized = clear.selects_sized;
    fine = arranged-fine q clear.statements_sized clear.fine o sound.order;
  }

  -- the same assignments make its statements facts
  ordered-facts : (ts : Tables) (a : List ℕ) → are_facts ts (statements_of (arranged_query q o)) a ≡ are_facts ts (statements_of q) a
  ordered-facts ts a =
      let f : Statement → Bool = λ s. not (is_fact ts (stated a s)) in
      ap (λ (l : List Statement). are_facts ts l a) ordered-statements ∙ facts-none ts (arranged (statements_of q) o) a ∙
      ap (λ (n : ℕ). eqb n 0) (many-order f (statements_of q) o (statements-ordered q clear.statements_sized clear.fine o sound.order)) ∙ sym (facts-none ts (statements_of q) a)

  pub ordered-accepted : (plan_of (arranged_query q o)).verdict ≡ Ok tt
  ordered-accepted =
      plan-verdict (arranged_query q o) ∙ arranged-fault q clear.statements_sized clear.fine o sound.order ∙
      without-fine (arranged (statements_of q) o) sound.none_twice

  pub ordered-shown : (ts : Tables) (p : Plan) → Shown ts (arranged_query q o) p → Shown ts q p
  ordered-shown ts p s =
      let m = s.meaning in
      let given : Meaning ts q (row_list p ts) = record {
        assignments = m.assignments;
        answers = record {
          none_twice = m.answers.none_twice;
          every = λ a w. m.answers.every a (record { one_per_variable = w.one_per_variable; all_facts = ordered-facts ts a ∙ w.all_facts });
          only =
              λ a h.
              let w = m.answers.only a h in
              record { one_per_variable = w.one_per_variable; all_facts = sym (ordered-facts ts a) ∙ w.all_facts };
        };
        rows_are = m.rows_are;
      } in
      record { meaning = given; answer = s.answer; buffer_then = s.buffer_then }
