-- What `sum` answers is `constants`.
use mathlib.Core.Path.{refl, sym, ◌∙◌}
use borrow.Author.Rules.{rules}
use Rattle.query.specs.declared.Statement.{Statement}
use Rattle.std.proofs.lemmas.Iterator.{YieldsList-from_slice, YieldsList-from_map}
use Rattle.std.proofs.lemmas.Iterator.Consumers.{sum_by_from_yields_List}
use Rattle.std.proofs.lemmas.List.Recursion.{is_sum_by}
use Rattle.query_check.specs.Refusals.{constants_in, constants}
use Rattle.query_check.proofs.count_constants.Goals as goal

pub returns : goal.returns
unfolding constants
returns c =
    let l = c.args.statements.now in
    sum_by_from_yields_List (λ (s : Statement). constants_in s.value) l c.map.result _ c.sum.ensures.ran (YieldsList-from_map _ (λ (s : Statement). constants_in s.value) (YieldsList-from_slice l cc) c.map.ensures.closure (λ x r q k. search rules)) ∙
    sym (is_sum_by constants (λ s. constants_in s.value) refl (λ _ _. refl) l)
