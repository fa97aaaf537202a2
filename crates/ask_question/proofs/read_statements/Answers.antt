-- `read_statements` meets its contract.
use Rattle.std.proofs.Common.{◌≡◌, arith}
use Prim.Native.Nat.{min}
use Rattle.capacity.specs.Capacity.{max_statements}
use Rattle.query.specs.Query.{zero_statement}
use Rattle.lists.proofs.Tabled.{tabled-padded-more, tabled-padded-none}
use Rattle.ask_question.proofs.Filled.{statements-are}
use Rattle.ask_question.proofs.read_statements.Goals as goal

pub loop-i-init : goal.loop-i-init
loop-i-init c = tabled-padded-none _ zero_statement max_statements

pub loop-i-preserved : goal.loop-i-preserved
loop-i-preserved c = let l = c.loop-i in tabled-padded-more _ zero_statement max_statements l.i _ _ (omega arith) l.invariant c.statement_at.ensures

pub returns : goal.returns
returns c =
    let l = c.loop-i in
    let e : l.i ≡ min c.args.count max_statements = omega arith in
    statements-are _ _ _ _ l.invariant e
