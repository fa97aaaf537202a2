-- `check_flows_of` meets its contract: the refusal of the scan that the search finds.
use Rattle.std.proofs.Common.{◌∙◌, sym, ap, Bool, rules}
use Rattle.std.proofs.lemmas.Iterator.{YieldsList-from_slice}
use Rattle.std.proofs.lemmas.Iterator.Search.{position_from_yields_List}
use Rattle.std.proofs.lemmas.Iterator.Adapters.{position_from-zero}
use Rattle.refusal.proofs.Position.{refused_at, first-searched}
use Rattle.plan.specs.declared.Scan.{Scan}
use Rattle.plan.specs.Plan.{out_out_eavt, out_out_fault}
use Rattle.plan.proofs.check_flows_of.Goals as goal

abbrev test : Scan → Bool
test s = out_out_eavt s.flow s.index

pub returns-in-Some : goal.returns-in-Some
unfolding out_out_fault
returns-in-Some c =
    let xs = c.args.scans.now in
    let at = position_from_yields_List test _ _ c.position.result c.position.ensures.ran (YieldsList-from_slice xs cc) (λ x b q k. search rules) ∙ position_from-zero test xs in
    c.refuse.ensures ∙ ap (refused_at 21) (sym c.in-Some.is ∙ at) ∙ sym (first-searched test 21 0 xs)

pub returns-in-None : goal.returns-in-None
unfolding out_out_fault
returns-in-None c =
    let xs = c.args.scans.now in
    let at = position_from_yields_List test _ _ c.position.result c.position.ensures.ran (YieldsList-from_slice xs cc) (λ x b q k. search rules) ∙ position_from-zero test xs in
    ap (refused_at 21) (sym c.in-None.is ∙ at) ∙ sym (first-searched test 21 0 xs)
