-- One byte more.
use Rattle.std.proofs.Common.{◌+◌, ◌*◌, ◌^◌, ◌<◌, get_or, refl, sym, ◌∙◌, arith}
use Rattle.image_read.proofs.Window.{no_bytes, bits-at-lt, byte_more, byte-room, byte_fits}
use Rattle.image_read.proofs.fields.bytes_at.Goals as goal

pub loop-i-init : goal.loop-i-init
loop-i-init c = no_bytes

pub overflow_mul-value : goal.overflow_mul-value
overflow_mul-value c =
    let l = c.loop-i in
    let small : l.value < 2 ^ (8 * l.i) = rw l.invariant (bits-at-lt c.args.bytes.now (8 * c.args.from) (8 * l.i) (omega arith)) in
    record { fits = byte-room _ _ small (omega arith) }

pub overflow_add-value : goal.overflow_add-value
overflow_add-value c =
    let l = c.loop-i in
    let small : l.value < 2 ^ (8 * l.i) = rw l.invariant (bits-at-lt c.args.bytes.now (8 * c.args.from) (8 * l.i) (omega arith)) in
    let byte : c.from.result < 256 = omega (arith, c.from.ensures, (c.type_inv.bytes (c.args.from + l.i)).fits) in
    record { fits = byte_fits _ _ _ small byte (omega arith) }

pub loop-i-preserved : goal.loop-i-preserved
loop-i-preserved c =
    let l = c.loop-i in
    let byte : get_or c.args.bytes.now (c.args.from + l.i) 0 < 256 = omega (arith, (c.type_inv.bytes (c.args.from + l.i)).fits) in
    let e = byte_more c.args.bytes.now c.args.from l.i (omega arith) byte in
    sym (e ∙ rw (← l.invariant, ← c.from.ensures) refl)
