-- One word more, and all of them.
use Rattle.std.proofs.Common.{arith}
use Rattle.eval.proofs.Put.{put-more}
use Rattle.eval.proofs.rows.put_row.Goals as goal

pub loop-j-preserved : goal.loop-j-preserved
loop-j-preserved c =
    put-more c.args.selects.now c.args.slots.now _ c.loop-j.rows c.args.at c.loop-j.j c.requires.selects_in_bounds (omega arith) c.loop-j.invariant
