-- The field is not there, or it is.
use Rattle.std.proofs.Common.{sym}
use Rattle.image_read.proofs.Answered.{field-short, field-met}
use Rattle.image_read.proofs.fields.read_field.Goals as goal

pub returns-then-runs_out : goal.returns-then-runs_out
returns-then-runs_out c = rw c.refuse.ensures (field-short _ _ _ c.requires.0 (sym c.if-runs_out.ensures))

pub returns : goal.returns
returns c = field-met _ _ _ c.requires.0 _ _ (sym c.if-runs_out.ensures) c.later.ensures c.bits_at.ensures
