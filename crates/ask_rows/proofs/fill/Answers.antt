-- The rows of the part that was lent.
use Rattle.std.proofs.Common.{◌≡◌, ap, ◌∙◌, length, rules}
use Rattle.capacity.specs.Capacity.{max_selects}
use Rattle.ask_rows.specs.Windows.{evaluated_of}
use Rattle.ask_rows.proofs.InFront.{evaluated, fills}
use Rattle.ask_rows.proofs.fill.Goals as goal

pub returns : goal.returns
returns c =
    let a = c.args in
    let sized : length a.plan.select ≡ max_selects = search rules in
    let e = ap evaluated_of c.evaluate.ensures.value ∙ evaluated _ _ _ _ in
    fills a.plan _ sized a.from a.left a.rows.now _ c.room_for-room.ensures _ _ e c.evaluate.ensures.rows_after
