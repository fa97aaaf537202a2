-- `is_index_used` meets its contract: the search says it.
use Rattle.std.proofs.Common.{◌∙◌, rules}
use Rattle.std.proofs.lemmas.Iterator.{YieldsList-from_slice}
use Rattle.std.proofs.lemmas.Iterator.Search.{any_from_yields_List}
use Rattle.plan.specs.declared.Scan.{Scan}
use Rattle.plan.specs.Plan.{same_index}
use Rattle.cost.proofs.Used.{index-searched}
use Rattle.cost.proofs.is_index_used.Goals as goal

pub returns : goal.returns
returns c =
    let xs = c.args.earlier.now in
    any_from_yields_List (λ (b : Scan). same_index c.args.index b.index) _ _ c.any.result c.any.ensures.ran (YieldsList-from_slice xs cc) (λ x b q k. search rules) ∙ index-searched _ xs
