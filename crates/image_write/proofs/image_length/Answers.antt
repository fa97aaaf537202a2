-- The bits of each part, to the next byte.
use Rattle.std.proofs.Common.{◌≡◌, ◌+◌, ◌*◌, ◌/◌, rules, arith, ◌∙◌}
use Rattle.plan.specs.Plan.{Filled}
use Rattle.image_write.proofs.Written.{slots-bits, length-counted}
use Rattle.image_write.proofs.image_length.Goals as goal

pub overflow_add-bits : goal.overflow_add-bits
overflow_add-bits c =
    let p = c.args.plan in
    let full : Filled p = record { many_scans = search rules; many_slots = search rules; many_selects = search rules } in
    record { fits = omega (arith, c.count_slots.ensures, slots-bits p full c.requires, c.requires.few_slots) }

pub overflow_add-bits-2 : goal.overflow_add-bits-2
overflow_add-bits-2 c =
    let p = c.args.plan in
    let full : Filled p = record { many_scans = search rules; many_slots = search rules; many_selects = search rules } in
    record { fits = omega (arith, c.count_slots.ensures, slots-bits p full c.requires, c.requires.few_slots, c.requires.few_scans) }

pub overflow_add-bits-3 : goal.overflow_add-bits-3
overflow_add-bits-3 c =
    let p = c.args.plan in
    let full : Filled p = record { many_scans = search rules; many_slots = search rules; many_selects = search rules } in
    record { fits = omega (arith, c.count_slots.ensures, slots-bits p full c.requires, c.requires.few_slots, c.requires.few_scans, c.requires.few_selects) }

pub returns : goal.returns
returns c =
    let p = c.args.plan in
    let full : Filled p = record { many_scans = search rules; many_slots = search rules; many_selects = search rules } in
    let e : c.div_ceil.result ≡ (19 + c.count_slots.result + 82 * p.scan_count + 7 * p.select_count + 7) / 8 = omega (arith, c.div_ceil.ensures) in
    e ∙ length-counted p full c.requires _ c.count_slots.ensures
