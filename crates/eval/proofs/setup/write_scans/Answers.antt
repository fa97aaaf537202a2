-- One scan more.
use Rattle.std.proofs.Common.{refl, arith}
use Rattle.eval.specs.Words.{words_of}
use Rattle.eval.proofs.Write.{write-more}
use Rattle.eval.proofs.setup.write_scans.Goals as goal

pub loop-i-init : goal.loop-i-init
unfolding words_of
loop-i-init c = refl

pub loop-i-preserved : goal.loop-i-preserved
loop-i-preserved c = write-more c.args.scans.now _ _ c.loop-i.i (omega arith) (omega arith) c.loop-i.invariant c.write_scan.ensures
