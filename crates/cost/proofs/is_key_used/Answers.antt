-- `is_key_used` meets its contract: the search says it.
use Rattle.std.proofs.Common.{◌∙◌, rules}
use Rattle.std.proofs.lemmas.Iterator.{YieldsList-from_slice}
use Rattle.std.proofs.lemmas.Iterator.Search.{any_from_yields_List}
use Rattle.cost.specs.Cost.{same_key}
use Rattle.cost.proofs.Used.{key-searched}
use Rattle.cost.proofs.is_key_used.Goals as goal

pub returns : goal.returns
returns c =
    let xs = c.args.earlier.now in
    any_from_yields_List (same_key c.args.scan.now) _ _ c.any.result c.any.ensures.ran (YieldsList-from_slice xs cc) (λ x b q k. search rules) ∙ key-searched _ xs
