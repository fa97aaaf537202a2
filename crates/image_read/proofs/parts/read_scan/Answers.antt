-- A field stopped, or all five are read.
use Rattle.std.proofs.lemmas.Result.{err_from_is_err_and}
use Rattle.image.specs.Read.{scan}
use Rattle.image_read.proofs.Answered.{read-then, read-stop, read-as}
use Rattle.image_read.proofs.Made.{scan_read, from_flow, from_entity, from_attribute, from_value, made_of}
use Rattle.image_read.proofs.parts.read_scan.Goals as goal

pub returns-in_err-index : goal.returns-in_err-index
unfolding scan
returns-in_err-index c = let p = err_from_is_err_and c.from_residual.result c.from_residual.ensures.1 in rw (p.1, p.2) (read-stop c.in_err-index.ensures from_flow)

pub returns-in_err-flow : goal.returns-in_err-flow
unfolding scan
returns-in_err-flow c =
    let p = err_from_is_err_and c.from_residual-in_err-flow.result c.from_residual-in_err-flow.ensures.1 in rw (p.1, p.2) (read-then c.in_ok-index.ensures from_flow (read-stop c.in_err-flow.ensures (from_entity c.in_ok-index.index)))

pub returns-in_err-entity : goal.returns-in_err-entity
unfolding scan
returns-in_err-entity c =
    let p = err_from_is_err_and c.from_residual-in_err-entity.result c.from_residual-in_err-entity.ensures.1 in rw (p.1, p.2)
    (read-then c.in_ok-index.ensures from_flow (read-then c.in_ok-flow.ensures (from_entity c.in_ok-index.index)
    (read-stop c.in_err-entity.ensures.reads (from_attribute c.in_ok-index.index c.in_ok-flow.flow))))

pub returns-in_err-attribute : goal.returns-in_err-attribute
unfolding scan
returns-in_err-attribute c =
    let p = err_from_is_err_and c.from_residual-in_err-attribute.result c.from_residual-in_err-attribute.ensures.1 in rw (p.1, p.2)
    (read-then c.in_ok-index.ensures from_flow (read-then c.in_ok-flow.ensures (from_entity c.in_ok-index.index)
    (read-then c.in_ok-entity.ensures.reads (from_attribute c.in_ok-index.index c.in_ok-flow.flow)
    (read-stop c.in_err-attribute.ensures.reads (from_value c.in_ok-index.index c.in_ok-flow.flow c.in_ok-entity.entity)))))

pub returns-in_err-value : goal.returns-in_err-value
unfolding scan
returns-in_err-value c =
    let p = err_from_is_err_and c.from_residual-in_err-value.result c.from_residual-in_err-value.ensures.1 in rw (p.1, p.2)
    (read-then c.in_ok-index.ensures from_flow (read-then c.in_ok-flow.ensures (from_entity c.in_ok-index.index)
    (read-then c.in_ok-entity.ensures.reads (from_attribute c.in_ok-index.index c.in_ok-flow.flow)
    (read-then c.in_ok-attribute.ensures.reads (from_value c.in_ok-index.index c.in_ok-flow.flow c.in_ok-entity.entity)
    (read-stop c.in_err-value.ensures.reads (made_of (scan_read c.in_ok-index.index c.in_ok-flow.flow c.in_ok-entity.entity c.in_ok-attribute.attribute)))))))

pub returns : goal.returns
unfolding scan
returns c =
    rw (c.index_of_code.ensures, c.flow_of_code.ensures)
    (read-then c.in_ok-index.ensures from_flow (read-then c.in_ok-flow.ensures (from_entity c.in_ok-index.index)
    (read-then c.in_ok-entity.ensures.reads (from_attribute c.in_ok-index.index c.in_ok-flow.flow)
    (read-then c.in_ok-attribute.ensures.reads (from_value c.in_ok-index.index c.in_ok-flow.flow c.in_ok-entity.entity)
    (read-as c.in_ok-value.ensures.reads (scan_read c.in_ok-index.index c.in_ok-flow.flow c.in_ok-entity.entity c.in_ok-attribute.attribute))))))
