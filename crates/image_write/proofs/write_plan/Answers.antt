-- Part by part.
use Rattle.std.proofs.Common.{rules, arith}
use lib.ListN.{length-take}
use Rattle.plan.specs.Plan.{Filled}
use Rattle.image_write.proofs.Written.{slots-bits, plan-written}
use Rattle.image_write.proofs.write_plan.Goals as goal

pub write_scans-requires : goal.write_scans-requires
write_scans-requires c =
    let p = c.args.plan in
    let full : Filled p = record { many_scans = search rules; many_slots = search rules; many_selects = search rules } in
    let few = c.requires in (
      omega (arith, length-take p.scan_count p.scans, few.few_scans),
      omega (arith, length-take p.scan_count p.scans, c.write_slots-scans_at.ensures.value, slots-bits p full few, few.few_slots, few.few_scans),
    )

pub overflow_add-selects_at : goal.overflow_add-selects_at
overflow_add-selects_at c =
    let p = c.args.plan in
    let full : Filled p = record { many_scans = search rules; many_slots = search rules; many_selects = search rules } in
    let few = c.requires in
    record { fits = omega (arith, c.write_slots-scans_at.ensures.value, slots-bits p full few, few.few_slots, few.few_scans) }

pub write_selects-requires : goal.write_selects-requires
write_selects-requires c =
    let p = c.args.plan in
    let full : Filled p = record { many_scans = search rules; many_slots = search rules; many_selects = search rules } in
    let few = c.requires in (
      omega (arith, length-take p.select_count p.select, few.few_selects),
      omega (arith, length-take p.select_count p.select, c.write_slots-scans_at.ensures.value, slots-bits p full few, few.few_slots, few.few_scans, few.few_selects),
    )

pub returns : goal.returns
returns c =
    let p = c.args.plan in
    let full : Filled p = record { many_scans = search rules; many_slots = search rules; many_selects = search rules } in
    plan-written p full c.requires c.args.out.now _ _ _ _ _
    c.write_counts.ensures c.write_slots-scans_at.ensures.out_after c.write_slots-scans_at.ensures.value c.write_scans.ensures c.write_selects.ensures
