-- What a pen does with a piece.
use Rattle.std.specs.Prelude.{◌≡◌, List, ℕ}
use Rattle.text_pieces.specs.declared.Pen.{Pen}
use Rattle.text_pieces.specs.Written.{Written}

-- the piece is written where the pen stood, and the pen stands behind it then, over the same buffer
pub record Wrote (piece : List ℕ) (pen pen' : Pen) : Type 0 where
  pub written : Written piece pen.at pen.out.now pen'.at pen'.out.now
  pub same_reference : pen'.out.ghost_name ≡ pen.out.ghost_name
