-- `infer_statements`: each turn is one of proofs/Begun.antt's.
use Rattle.std.proofs.Common.{◌≡◌, ℕ, ◌<◌, rules, sym, ◌∙◌, Ok, Err, None, get_or, unwrap_or, arith}
use Rattle.capacity.specs.Capacity.{max_slots}
use Rattle.types.proofs.Begun.{begun-none, begun_all, begun-refused, begun_more}
use Rattle.types.proofs.infer_statements.Goals as goal

pub loop-i-init : goal.loop-i-init
loop-i-init c = begun-none _ _ c.requires

pub returns-in_err-infer_statement : goal.returns-in_err-infer_statement
returns-in_err-infer_statement c =
    let is : c.from_residual.result ≡ Err c.in_err-infer_statement.field-0.0 = search rules in
    is ∙ begun-refused _ _ c.requires c.loop-i.invariant c.loop-i-test.true _ (sym c.infer_statement.ensures.verdict ∙ c.in_err-infer_statement.was)

pub loop-i-preserved : goal.loop-i-preserved
loop-i-preserved c =
    let ok : c.infer_statement.result ≡ Ok tt = c.in_ok-infer_statement.was in
    rw (c.infer_statement.ensures.known ok) (begun_more _ _ c.requires c.loop-i.invariant c.loop-i-test.true (sym c.infer_statement.ensures.verdict ∙ ok))

pub returns : goal.returns
returns c =
    let each : (v : ℕ) → v < max_slots → get_or c.map.result v 0 ≡ unwrap_or (get_or c.loop-i.known v None) 0 =
    λ v h. let call = (c.map.ensures.items.at v None 0 h).2 in search rules in
    begun_all _ _ c.requires c.loop-i.invariant _ c.map.ensures.items.long each (omega arith)
