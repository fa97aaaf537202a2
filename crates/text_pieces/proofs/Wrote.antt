-- Pieces that a pen writes one after the other.
use mathlib.Core.Path.{refl, ◌∙◌}
use mathlib.Core.List.{List, [], ◌++◌, append-nil}
use Prim.Native.Nat.{ℕ, ◌≤◌}
use lib.ListN.{length}
use Rattle.text_pieces.specs.declared.Pen.{Pen}
use Rattle.text_pieces.specs.Written.{largest}
use Rattle.text_pieces.specs.Wrote.{Wrote}
use Rattle.text_pieces.proofs.Written.{written_none, written_then}

-- nothing: a pen's position and its buffer's length are numbers of 64 bits
pub wrote_none : {a : Pen} → a.at ≤ largest → length a.out.now ≤ largest → Wrote [] a a
wrote_none h k = record { written = written_none h k; same_reference = refl }

-- a piece, and then nothing
pub wrote_no_more : {p : List ℕ} {a b : Pen} → Wrote p a b → Wrote (p ++ []) a b
wrote_no_more v = rw append-nil v

-- a piece, and then another
pub wrote_then : {p q : List ℕ} {a b c : Pen} → Wrote p a b → Wrote q b c → Wrote (p ++ q) a c
wrote_then v w = record { written = written_then v.written w.written; same_reference = w.same_reference ∙ v.same_reference }
