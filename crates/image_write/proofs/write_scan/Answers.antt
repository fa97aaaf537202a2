-- One field behind the other.
use Rattle.image_write.proofs.Fields.{five-written}
use Rattle.image_write.proofs.write_scan.Goals as goal

pub returns : goal.returns
returns c =
    let a = c.args in
    let s = a.scan in
    rw (← c.index_code.ensures, ← c.flow_code.ensures)
    (five-written a.out.now _ _ _ _ _ a.at _ _ s.entity.0 s.attribute.0 s.value.0
    c.write_bits.ensures c.write_bits-2.ensures (rw c.from.ensures at c.write_bits-3.ensures) c.write_bits-4.ensures (rw c.from-2.ensures at c.write_bits-5.ensures))
