-- The text fits beside the cost line.
use Rattle.std.proofs.Common.{sym, ◌∙◌, rules, arith}
use Rattle.ask_opening.proofs.Said.{opening-written, text_formatted, ok-value}
use Rattle.ask_opening.proofs.write_opening.Goals as goal

pub unwrap-length-requires : goal.unwrap-length-requires
unwrap-length-requires c =
    let a = c.args in
    rw (c.fmt.ensures.value ∙ text_formatted a.plan a.cost a.names.now a.ends.now a.out.now (omega arith) (omega arith) c.requires) (search rules)

pub returns : goal.returns
returns c =
    let a = c.args in
    let e = c.fmt.ensures.value ∙ text_formatted a.plan a.cost a.names.now a.ends.now a.out.now (omega arith) (omega arith) c.requires in
    opening-written a.plan a.cost a.names.now a.ends.now a.out.now (omega arith) (omega arith) c.requires c.unwrap-length.result _ _ _ (ok-value (sym c.unwrap-length.ensures ∙ e)) c.fmt.ensures.out_after c.write_cost.ensures
