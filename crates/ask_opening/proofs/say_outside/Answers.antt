-- One line, and no rows.
use Rattle.std.proofs.Common.{refl}
use Rattle.ask_opening.proofs.Said.{opens-only, outside-written}
use Rattle.ask_opening.proofs.say_outside.Goals as goal

pub returns : goal.returns
returns c = opens-only refl (outside-written _ _ _ c.write_outside-length.ensures)
