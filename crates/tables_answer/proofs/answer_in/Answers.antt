-- The tables that stand in front of the buffers, or a refusal.
use mathlib.Core.Path.{sym}
use Prim.Native.Nat.{◌*◌}
use native.Mathlib.Omega.{arith}
use lib.Seq.{length-take-le}
use Rattle.datom.specs.Fact.{words}
use Rattle.tables_answer.proofs.Written.{rows-fit, heap-built, heap-refused}
use Rattle.tables_answer.proofs.answer_in.Goals as goal

pub overflow_mul-words : goal.overflow_mul-words
overflow_mul-words c = omega (arith, rows-fit c.args.heap.now c.args.aevt.now c.args.avet.now c.args.eavt.now c.build.new.aevt c.build.new.avet c.build.new.eavt c.in-Ok.ensures.value c.in-Ok.ensures.aevt_after)

pub slice_bounds-write_tables-end : goal.slice_bounds-write_tables-end
slice_bounds-write_tables-end c = omega (arith, rows-fit c.args.heap.now c.args.aevt.now c.args.avet.now c.args.eavt.now c.build.new.aevt c.build.new.avet c.build.new.eavt c.in-Ok.ensures.value c.in-Ok.ensures.aevt_after)

pub slice_bounds-write_tables-end-in-Ok : goal.slice_bounds-write_tables-end-in-Ok
slice_bounds-write_tables-end-in-Ok c = sym (length-take-le _ _ (omega (arith, rows-fit c.args.heap.now c.args.aevt.now c.args.avet.now c.args.eavt.now c.build.new.aevt c.build.new.avet c.build.new.eavt c.in-Ok.ensures.value c.in-Ok.ensures.aevt_after)))

pub slice_bounds-write_tables-end-in-Ok-2 : goal.slice_bounds-write_tables-end-in-Ok-2
slice_bounds-write_tables-end-in-Ok-2 c = omega (arith, rows-fit c.args.heap.now c.args.aevt.now c.args.avet.now c.args.eavt.now c.build.new.aevt c.build.new.avet c.build.new.eavt c.in-Ok.ensures.value c.in-Ok.ensures.aevt_after)

pub slice_bounds-write_tables-end-in-Ok-3 : goal.slice_bounds-write_tables-end-in-Ok-3
slice_bounds-write_tables-end-in-Ok-3 c = sym (length-take-le _ _ (omega (arith, rows-fit c.args.heap.now c.args.aevt.now c.args.avet.now c.args.eavt.now c.build.new.aevt c.build.new.avet c.build.new.eavt c.in-Ok.ensures.value c.in-Ok.ensures.aevt_after)))

pub slice_bounds-write_tables-end-in-Ok-4 : goal.slice_bounds-write_tables-end-in-Ok-4
slice_bounds-write_tables-end-in-Ok-4 c = omega (arith, rows-fit c.args.heap.now c.args.aevt.now c.args.avet.now c.args.eavt.now c.build.new.aevt c.build.new.avet c.build.new.eavt c.in-Ok.ensures.value c.in-Ok.ensures.aevt_after)

pub slice_bounds-write_tables-end-in-Ok-5 : goal.slice_bounds-write_tables-end-in-Ok-5
slice_bounds-write_tables-end-in-Ok-5 c = sym (length-take-le _ _ (omega (arith, rows-fit c.args.heap.now c.args.aevt.now c.args.avet.now c.args.eavt.now c.build.new.aevt c.build.new.avet c.build.new.eavt c.in-Ok.ensures.value c.in-Ok.ensures.aevt_after)))

pub write_tables-requires-clause-aevt_fits : goal.write_tables-requires-clause-aevt_fits
write_tables-requires-clause-aevt_fits c =
    let room = rows-fit c.args.heap.now c.args.aevt.now c.args.avet.now c.args.eavt.now c.build.new.aevt c.build.new.avet c.build.new.eavt c.in-Ok.ensures.value c.in-Ok.ensures.aevt_after in
    rw (length-take-le (c.in-Ok.count * words) c.build.new.aevt (omega (arith, room))) (omega (arith, room))

pub write_tables-requires-clause-avet_fits : goal.write_tables-requires-clause-avet_fits
write_tables-requires-clause-avet_fits c =
    let room = rows-fit c.args.heap.now c.args.aevt.now c.args.avet.now c.args.eavt.now c.build.new.aevt c.build.new.avet c.build.new.eavt c.in-Ok.ensures.value c.in-Ok.ensures.aevt_after in
    rw (length-take-le (c.in-Ok.count * words) c.build.new.avet (omega (arith, room))) (omega (arith, room))

pub write_tables-requires-clause-eavt_fits : goal.write_tables-requires-clause-eavt_fits
write_tables-requires-clause-eavt_fits c =
    let room = rows-fit c.args.heap.now c.args.aevt.now c.args.avet.now c.args.eavt.now c.build.new.aevt c.build.new.avet c.build.new.eavt c.in-Ok.ensures.value c.in-Ok.ensures.aevt_after in
    rw (length-take-le (c.in-Ok.count * words) c.build.new.eavt (omega (arith, room))) (omega (arith, room))

pub returns-in-Ok-clause-written : goal.returns-in-Ok-clause-written
returns-in-Ok-clause-written c =
    let b = c.in-Ok.ensures in
    let t = c.write_tables.ensures in
    (heap-built c.args.heap.now c.args.aevt.now c.args.avet.now c.args.eavt.now c.build.new.aevt c.build.new.avet c.build.new.eavt c.requires.aevt_len c.requires.avet_len c.requires.eavt_len b.value b.aevt_after b.avet_after b.eavt_after (t.written, t.upper_bound)).0

pub returns-in-Err-clause-written : goal.returns-in-Err-clause-written
returns-in-Err-clause-written c = (heap-refused c.args.heap.now c.args.aevt.now c.args.avet.now c.args.eavt.now c.build.new.aevt c.build.new.avet c.build.new.eavt c.requires.aevt_len c.requires.avet_len c.requires.eavt_len c.in-Err.ensures.value c.write_refusal.ensures).0

pub returns-in-Err-clause-upper_bound : goal.returns-in-Err-clause-upper_bound
returns-in-Err-clause-upper_bound c = (heap-refused c.args.heap.now c.args.aevt.now c.args.avet.now c.args.eavt.now c.build.new.aevt c.build.new.avet c.build.new.eavt c.requires.aevt_len c.requires.avet_len c.requires.eavt_len c.in-Err.ensures.value c.write_refusal.ensures).1
