-- `check_all_set` meets its contract: the refusal of the slot that the search finds.
use Rattle.std.proofs.Common.{◌∙◌, sym, ap, not, Bool, rules}
use Rattle.std.proofs.lemmas.Iterator.{YieldsList-from_slice}
use Rattle.std.proofs.lemmas.Iterator.Search.{position_from_yields_List}
use Rattle.std.proofs.lemmas.Iterator.Adapters.{position_from-zero}
use Rattle.refusal.proofs.Position.{refused_at, first-searched}
use Rattle.plan_check.specs.declared.Initialization.{Initialization}
use Rattle.plan_check.specs.Record.{is_set_state}
use Rattle.plan_check.proofs.check_all_set.Goals as goal

abbrev test : Initialization → Bool
test s = not (is_set_state s)

pub returns-in-Some : goal.returns-in-Some
returns-in-Some c =
    let xs = c.args.initialization.now in
    let at = position_from_yields_List test _ _ c.position-unset.result c.position-unset.ensures.ran (YieldsList-from_slice xs cc) (λ x b q k. search rules) ∙ position_from-zero test xs in
    c.refuse.ensures ∙ ap (refused_at 25) (sym c.in-Some.is ∙ at) ∙ sym (first-searched test 25 0 xs)

pub returns-in-None : goal.returns-in-None
returns-in-None c =
    let xs = c.args.initialization.now in
    let at = position_from_yields_List test _ _ c.position-unset.result c.position-unset.ensures.ran (YieldsList-from_slice xs cc) (λ x b q k. search rules) ∙ position_from-zero test xs in
    ap (refused_at 25) (sym c.in-None.is ∙ at) ∙ sym (first-searched test 25 0 xs)
