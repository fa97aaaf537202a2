-- `open_planned` meets its contract: there is room for the names of a question.
use Rattle.std.proofs.Common.{◌≤◌, arith, ap, length, sym}
use lib.Seq.{length-take-le}
use Rattle.ask_opening.proofs.Said.{opens_as, question-names, names-found, names-as-said}
use Rattle.ask_opening.proofs.open_planned.Goals as goal

pub slice_bounds-names-end : goal.slice_bounds-names-end
slice_bounds-names-end c =
    let pre = c.requires in
    omega (arith, ap length (names-found _ _ pre.parts_value c.items-given.ensures), (question-names _ pre.words_value).1)

pub slice_bounds-open_named-end : goal.slice_bounds-open_named-end
slice_bounds-open_named-end c =
    let pre = c.requires in
    let few : length c.items-given.result.now ≤ length c.read_bytes.new.bytes = omega (arith, ap length (names-found _ _ pre.parts_value c.items-given.ensures), (question-names _ pre.words_value).1) in
    sym (length-take-le _ _ few)

pub returns : goal.returns
returns c =
    let a = c.args in
    let pre = c.requires in
    opens_as (names-as-said a.words.now _ _ a.plan a.cost _ _ pre.words_value (names-found _ _ pre.parts_value c.items-given.ensures) c.read_bytes.ensures.bytes_after) c.open_named.ensures
