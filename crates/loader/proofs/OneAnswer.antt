-- No second answer fits the promises of the calls: of what is lent, each says one number to return, and for the answer's words and each
-- buffer that it writes one content at exit.
use mathlib.Core.Path.{◌≡◌}
use mathlib.Core.List.{List}
use Prim.Native.Nat.{ℕ}
use lib.ListN.{length}
use Rattle.refusal.specs.Verdict.{number_of}
use Rattle.refusal.proofs.OneAnswer.{one_answer}
use Rattle.permutation.specs.Swaps.{fresh_of}
use Rattle.cost.specs.Cost.{cost_of}
use Rattle.plan_check.specs.Check.{check_of}
use Rattle.tables.specs.Check.{tables_fault}
use Rattle.datom.specs.Fact.{aevt_row, avet_row, eavt_row}
use Rattle.tables_build.specs.Build.{built_rows, build_of, built_over}
use Rattle.visits.specs.Visits.{Tables}
use Rattle.eval.specs.Evaluation.{evaluate_of, buffer_after}
use Rattle.text_names.specs.Names.{select_name_fault}
use Rattle.plan_text.specs.Answer.{formatted_of, text_after}
use Rattle.image.specs.Image.{stored_of, image_after}
use Rattle.image.specs.Read.{plan_read_of}
use Rattle.loader_words.specs.Words.{plan_of_words}
use Rattle.loader.specs.Answers.{answer_of, bit, plan_after, stepped_after, order_after, types_after, state_after, swap_after, planned_of, found_of, typed_of, stepped_of, swapped_of, built_words, evaluated_words, formatted_words, name_words, stored_words}

-- a call returns r and leaves a in its answer; and b in a buffer; and c in another
abbrev Answers : ℕ → List ℕ → ℕ → List ℕ → Type 0
Answers n w r a = (r ≡ n) × (a ≡ w)

abbrev Writes : ℕ → List ℕ → List ℕ → ℕ → List ℕ → List ℕ → Type 0
Writes n w u r a b = (r ≡ n) × (a ≡ w) × (b ≡ u)

abbrev WritesTwo : ℕ → List ℕ → List ℕ → List ℕ → ℕ → List ℕ → List ℕ → List ℕ → Type 0
WritesTwo n w u v r a b c = (r ≡ n) × (a ≡ w) × (b ≡ u) × (c ≡ v)

answers_one : (n : ℕ) (w : List ℕ) (r r' : ℕ) (a a' : List ℕ) → Answers n w r a → Answers n w r' a' → (r ≡ r') × (a ≡ a')
answers_one n w r r' a a' p q = (one_answer p.0 q.0, one_answer p.1 q.1)

writes_one : (n : ℕ) (w u : List ℕ) (r r' : ℕ) (a a' b b' : List ℕ) → Writes n w u r a b → Writes n w u r' a' b' → (r ≡ r') × (a ≡ a') × (b ≡ b')
writes_one n w u r r' a a' b b' p q = (one_answer p.0 q.0, one_answer p.1 q.1, one_answer p.2 q.2)

writes-two-one : (n : ℕ) (w u v : List ℕ) (r r' : ℕ) (a a' b b' c c' : List ℕ) → WritesTwo n w u v r a b c → WritesTwo n w u v r' a' b' c'
    → (r ≡ r') × (a ≡ a') × (b ≡ b') × (c ≡ c')
writes-two-one n w u v r r' a a' b b' c c' p q = (one_answer p.0 q.0, one_answer p.1 q.1, one_answer p.2 q.2, one_answer p.3 q.3)

abbrev WritesThree : ℕ → List ℕ → List ℕ → List ℕ → List ℕ → ℕ → List ℕ → List ℕ → List ℕ → List ℕ → Type 0
WritesThree n w u v x r a b c d = (r ≡ n) × (a ≡ w) × (b ≡ u) × (c ≡ v) × (d ≡ x)

module _ (r r' : ℕ) (a a' : List ℕ) where
  pub loader-check-one : (plan : List ℕ) → let says = Answers (number_of (check_of (plan_of_words plan))) (answer_of (check_of (plan_of_words plan)) 0 0) in
      says r a → says r' a' → (r ≡ r') × (a ≡ a')
  loader-check-one plan = answers_one _ _ r r' a a'

  pub loader-cost-one : (plan : List ℕ) →
      let costed = cost_of (plan_of_words plan) in
      let says = Answers (number_of costed.verdict) (answer_of costed.verdict costed.cost 0) in
      says r a → says r' a' → (r ≡ r') × (a ≡ a')
  loader-cost-one plan = answers_one _ _ r r' a a'

  pub loader-tables-one : (aevt avet eavt : List ℕ) →
      let says = Answers (number_of (tables_fault aevt avet eavt)) (answer_of (tables_fault aevt avet eavt) 0 0) in
      says r a → says r' a' → (r ≡ r') × (a ≡ a')
  loader-tables-one aevt avet eavt = answers_one _ _ r r' a a'

  pub loader-select-name-one : (plan names ends : List ℕ) (i : ℕ) →
      let says = Answers (number_of (select_name_fault (plan_of_words plan) names ends i)) (name_words (plan_of_words plan) names ends i) in
      says r a → says r' a' → (r ≡ r') × (a ≡ a')
  loader-select-name-one plan names ends i = answers_one _ _ r r' a a'

  module _ (b b' : List ℕ) where
    pub loader-plan-one : (query plan : List ℕ) →
        let planned = planned_of query in
        let says = Writes (number_of planned.verdict) (answer_of planned.verdict 0 0) (plan_after planned.verdict planned.plan plan) in
        says r a b → says r' a' b' → (r ≡ r') × (a ≡ a') × (b ≡ b')
    loader-plan-one query plan = writes_one _ _ _ r r' a a' b b'

    pub loader-types-one : (query table types : List ℕ) →
        let typed = typed_of query table in
        let says = Writes (number_of typed.verdict) (answer_of typed.verdict 0 0) (types_after typed types) in
        says r a b → says r' a' b' → (r ≡ r') × (a ≡ a') × (b ≡ b')
    loader-types-one query table types = writes_one _ _ _ r r' a a' b b'

    pub loader-next-one : (plan : List ℕ) →
        let stepped = stepped_of plan in
        let says = Writes (number_of stepped.verdict) (answer_of stepped.verdict (bit stepped.is_new) 0) (stepped_after stepped plan) in
        says r a b → says r' a' b' → (r ≡ r') × (a ≡ a') × (b ≡ b')
    loader-next-one plan = writes_one _ _ _ r r' a a' b b'

    pub loader-evaluate-one : (plan : List ℕ) (ts : Tables) (from : ℕ) (rows : List ℕ) →
        let evaluated = evaluate_of (plan_of_words plan) ts from (length rows) in
        let says = Writes (number_of evaluated.verdict) (evaluated_words evaluated) (buffer_after (plan_of_words plan) ts from rows) in
        says r a b → says r' a' b' → (r ≡ r') × (a ≡ a') × (b ≡ b')
    loader-evaluate-one plan ts from rows = writes_one _ _ _ r r' a a' b b'

    pub loader-text-one : (plan names ends out : List ℕ) →
        let formatted = formatted_of (plan_of_words plan) names ends (length out) in
        let says = Writes (number_of formatted.verdict) (formatted_words formatted) (text_after (plan_of_words plan) names ends out) in
        says r a b → says r' a' b' → (r ≡ r') × (a ≡ a') × (b ≡ b')
    loader-text-one plan names ends out = writes_one _ _ _ r r' a a' b b'

    pub loader-store-one : (plan out : List ℕ) →
        let stored = stored_of (plan_of_words plan) (length out) in
        let says = Writes (number_of stored.verdict) (stored_words stored) (image_after (plan_of_words plan) out) in
        says r a b → says r' a' b' → (r ≡ r') × (a ≡ a') × (b ≡ b')
    loader-store-one plan out = writes_one _ _ _ r r' a a' b b'

    pub loader-restore-one : (image plan : List ℕ) →
        let restored = plan_read_of image in
        let says = Writes (number_of restored.verdict) (answer_of restored.verdict 0 0) (plan_after restored.verdict restored.plan plan) in
        says r a b → says r' a' b' → (r ≡ r') × (a ≡ a') × (b ≡ b')
    loader-restore-one image plan = writes_one _ _ _ r r' a a' b b'

    pub loader-permutations-one : (n : ℕ) (state : List ℕ) →
        let fresh = fresh_of n in
        let says = Writes (number_of fresh.verdict) (answer_of fresh.verdict 0 0) (state_after fresh.verdict fresh.state state) in
        says r a b → says r' a' b' → (r ≡ r') × (a ≡ a') × (b ≡ b')
    loader-permutations-one n state = writes_one _ _ _ r r' a a' b b'

    module _ (c c' : List ℕ) where
      pub loader-search-one : (query order plan : List ℕ) →
          let found = found_of query in
          let v = found.verdict in
          let says = WritesTwo (number_of v) (answer_of v found.cost 0) (order_after v found.order order) (plan_after v found.plan plan) in
          says r a b c → says r' a' b' c' → (r ≡ r') × (a ≡ a') × (b ≡ b') × (c ≡ c')
      loader-search-one query order plan = writes-two-one _ _ _ _ r r' a a' b b' c c'

      pub loader-next-swap-one : (state swap : List ℕ) →
          let step = swapped_of state in
          let v = step.next.verdict in
          let says = WritesTwo (number_of v) (answer_of v (bit step.next.is_some) 0) (swap_after v step.next.swap swap) (state_after v step.state state) in
          says r a b c → says r' a' b' c' → (r ≡ r') × (a ≡ a') × (b ≡ b') × (c ≡ c')
      loader-next-swap-one state swap = writes-two-one _ _ _ _ r r' a a' b b' c c'

      pub loader-build-one : (d d' heap aevt avet eavt : List ℕ) →
          let built = build_of heap (length aevt) (length avet) (length eavt) in
          let v = built.verdict in
          let says = WritesThree (number_of v) (built_words built) (built_over v (built_rows aevt_row heap) aevt) (built_over v (built_rows avet_row heap) avet)
          (built_over v (built_rows eavt_row heap) eavt) in
          says r a b c d → says r' a' b' c' d' → (r ≡ r') × (a ≡ a') × (b ≡ b') × (c ≡ c') × (d ≡ d')
      loader-build-one d d' heap aevt avet eavt p q =
          (one_answer p.0 q.0, one_answer p.1 q.1, one_answer p.2 q.2, one_answer p.3 q.3, one_answer p.4 q.4)
