-- Part by part.
use Rattle.text_pieces.proofs.Wrote.{wrote_then}
use Rattle.plan_text.specs.Text.{text_of}
use Rattle.plan_text.proofs.write_parts.Goals as goal

pub returns : goal.returns
unfolding text_of
returns c =
    let one_each = c.requires.ends_len in
    rw one_each at (wrote_then (wrote_then (wrote_then c.write_constants.ensures c.write_scans.ensures) c.write.ensures) c.write_selects.ensures)
