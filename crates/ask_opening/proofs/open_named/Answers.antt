-- The ends that the buffer holds say what all of them say.
use Rattle.std.proofs.Common.{sym, arith, length-take-le}
use Rattle.ask_question.specs.Asked.{ends_count}
use Rattle.ask_opening.proofs.Said.{ends_found, opens_as}
use Rattle.ask_opening.proofs.Ends.{ends-as-said}
use Rattle.ask_opening.proofs.open_named.Goals as goal

pub slice_bounds-ends-end : goal.slice_bounds-ends-end
unfolding ends_count
slice_bounds-ends-end c = omega (arith, c.count_ends-count.ensures)

pub slice_bounds-open_with-end : goal.slice_bounds-open_with-end
unfolding ends_count
slice_bounds-open_with-end c = sym (length-take-le _ _ (omega (arith, c.count_ends-count.ensures)))

pub returns : goal.returns
returns c =
    let a = c.args in
    opens_as (ends-as-said a.words.now a.plan a.cost a.names.now _ _ _ _ _ _ (ends_found _ _ c.requires c.items-given.ensures) c.word_at-variables.ensures c.saturating_sub-constants.ensures c.count_ends-count.ensures c.read_ends.ensures) c.open_with.ensures
