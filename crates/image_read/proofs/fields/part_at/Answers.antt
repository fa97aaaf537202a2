-- Of the number of the bytes, the bits behind are divided away, and those before are left out.
use Rattle.std.proofs.Common.{◌+◌, ◌*◌, ◌-◌, sym, arith}
use Rattle.image_read.proofs.Window.{window}
use Rattle.image_read.proofs.fields.part_at.Goals as goal

pub returns : goal.returns
returns c =
    let a = c.args in
    let m = c.bytes_of-count.result in
    let past = a.at.bit + a.width in
    rw (c.bytes_at.ensures, c.power.ensures, c.power-2.ensures)
    (sym (window a.bytes.now a.at.byte m a.at.bit a.width (8 * m - past) (omega arith) (omega arith)))
