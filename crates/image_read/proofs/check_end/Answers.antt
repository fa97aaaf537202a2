-- By the byte where the fields end.
use Rattle.std.proofs.Common.{sym, ◌∙◌}
use borrow.Author.Tests.{lt-ltb, le-ltb}
use Rattle.image_read.proofs.Whole.{end_is}
use Rattle.image_read.proofs.check_end.Goals as goal

pub returns-then-not-pad_is_zero : goal.returns-then-not-pad_is_zero
returns-then-not-pad_is_zero c = c.refuse.ensures ∙ sym (end_is _ _ c.requires ∙ simp (sym c.if-not-pad_is_zero.ensures))

pub returns-then-length-bytes : goal.returns-then-length-bytes
returns-then-length-bytes c =
    rw c.bytes_of.ensures at c.refuse-then-length-bytes.ensures ∙
    sym (end_is _ _ c.requires ∙ simp (sym c.if-not-pad_is_zero.ensures, lt-ltb _ _ (rw c.bytes_of.ensures at c.if-length-bytes.true)))

pub returns : goal.returns
returns c = sym (end_is _ _ c.requires ∙ simp (sym c.if-not-pad_is_zero.ensures, le-ltb _ _ (rw c.bytes_of.ensures at c.if-length-bytes.false)))
