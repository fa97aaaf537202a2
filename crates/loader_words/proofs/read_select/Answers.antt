-- `read_select` meets its contract: each place is read.
use Rattle.std.proofs.Common.{◌∙◌, length-set, arith, rules}
use Rattle.lists.proofs.Tabled.{tabled-none, tabled-more, tabled-all}
use Rattle.loader_words.specs.Words.{selected_at}
use Rattle.loader_words.proofs.read_select.Goals as goal

pub loop-i-init : goal.loop-i-init
loop-i-init c = (search rules, tabled-none _)

pub loop-i-preserved : goal.loop-i-preserved
loop-i-preserved c =
    let l = c.loop-i in (
      length-set l.select _ _ ∙ l.invariant.0,
      tabled-more (selected_at c.args.words.now) l.select l.i _ (omega arith) c.read_selected.ensures l.invariant.1,
    )

pub returns : goal.returns
returns c = tabled-all _ c.loop-i.select c.loop-i.i _ c.loop-i.invariant.0 (omega arith) c.loop-i.invariant.1
