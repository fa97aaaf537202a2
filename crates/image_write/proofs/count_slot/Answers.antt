-- A constant's bits.
use Rattle.std.proofs.Common.{sym}
use Rattle.image.proofs.Length.{constant-length}
use Rattle.image_write.proofs.count_slot.Goals as goal

pub returns-in-Constant : goal.returns-in-Constant
returns-in-Constant c = rw c.in-Constant.is (sym (constant-length _))
