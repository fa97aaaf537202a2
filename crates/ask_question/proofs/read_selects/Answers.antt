-- `read_selects` meets its contract.
use Rattle.std.proofs.Common.{◌≡◌, arith}
use Prim.Native.Nat.{min}
use Rattle.capacity.specs.Capacity.{max_selects}
use Rattle.query.specs.Query.{zero_var}
use Rattle.lists.proofs.Tabled.{tabled-padded-more, tabled-padded-none}
use Rattle.ask_question.proofs.Filled.{selects_are}
use Rattle.ask_question.proofs.read_selects.Goals as goal

pub loop-i-init : goal.loop-i-init
loop-i-init c = tabled-padded-none _ zero_var max_selects

pub loop-i-preserved : goal.loop-i-preserved
loop-i-preserved c =
    let l = c.loop-i in
    tabled-padded-more _ zero_var max_selects l.i _ _ (omega arith) l.invariant (rw c.word_at.ensures at c.variable.ensures)

pub returns : goal.returns
returns c =
    let l = c.loop-i in
    let e : l.i ≡ min c.args.count max_selects = omega arith in
    selects_are _ _ _ _ l.invariant e
