-- The number, and what follows it.
use borrow.Author.Tests.{le-leb, lt-leb}
use Rattle.text_pieces.proofs.Wrote.{wrote_then}
use Rattle.ask_lines.specs.Lines.{word_text}
use Rattle.ask_lines.proofs.write_word.Goals as goal
use Rattle.ask_lines.proofs.write_word.Goals.{then-left-le1, else-left-le1}

pub returns : goal.returns
unfolding word_text
returns c =
    let both = wrote_then c.write_decimal.ensures c.write.ensures in
    elim c.if-left-le1.branch [
      | then-left-le1 w ↦ rw (le-leb _ 1 w.if-left-le1.true) (rw w.write-is at both)
      | else-left-le1 w ↦ rw (lt-leb _ 1 w.if-left-le1.false) (rw w.write-is at both)
    ]
