-- `read_counters` meets its contract: each place is read.
use Rattle.std.proofs.Common.{◌∙◌, refl, length-set, arith, rules}
use Rattle.lists.proofs.Tabled.{tabled-none, tabled-more, tabled-all}
use Rattle.loader_swap_words.specs.State.{counter_at}
use Rattle.loader_swap_words.proofs.read_counters.Goals as goal

pub loop-i-init : goal.loop-i-init
loop-i-init c = (search rules, tabled-none _)

pub loop-i-preserved : goal.loop-i-preserved
loop-i-preserved c =
    let l = c.loop-i in (
      length-set l.k-items _ _ ∙ l.invariant.0,
      tabled-more (counter_at c.args.words.now) l.k-items l.i _ (omega arith) refl l.invariant.1,
    )

pub returns : goal.returns
returns c = tabled-all _ c.loop-i.k-items c.loop-i.i _ c.loop-i.invariant.0 (omega arith) c.loop-i.invariant.1
