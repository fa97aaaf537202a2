-- The name's place is clipped to the names.
use Rattle.text_names.specs.Names.{name_of}
use Rattle.text_names.proofs.Names.{part-clipped}
use Rattle.text_names.proofs.get_name.Goals as goal

pub returns : goal.returns
unfolding name_of
returns c =
    rw (c.min-start.ensures, c.start_at.ensures, c.min-end.ensures, c.end_at.ensures, c.from-i_slot.ensures)
    (part-clipped _ _ c.args.names.now)
