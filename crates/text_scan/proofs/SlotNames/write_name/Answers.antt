-- The name that is found, or no byte.
use Rattle.std.proofs.Common.{sym, ◌∙◌}
use Rattle.lists.proofs.Laid.{laid_none}
use Rattle.text_pieces.specs.Escaped.{escaped_byte}
use Rattle.text_scan.proofs.SlotNames.write_name.Goals as goal
use Rattle.text_scan.proofs.SlotNames.write_name.Goals.{then-is_constant, else-is_constant}

pub returns : goal.returns
returns c =
    elim c.if-is_constant.branch [
      | then-is_constant w ↦ rw (sym c.is_constant.ensures ∙ w.if-is_constant.true) (rw (w.name-is, ← (laid_none escaped_byte)) at c.write_escaped.ensures)
      | else-is_constant w ↦ rw (sym c.is_constant.ensures ∙ w.if-is_constant.false, ← w.get_name-name.ensures) (rw w.name-is at c.write_escaped.ensures)
    ]
