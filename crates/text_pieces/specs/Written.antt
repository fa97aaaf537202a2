-- Pieces of a text, counted and written over a buffer from a position on.
use Rattle.std.specs.Prelude.{◌≡◌, List, ℕ, ◌+◌, ◌-◌, ◌^◌, ◌≤◌, min, length}
use Rattle.std.proofs.lemmas.List.Edits.{sets}

-- the largest position: every buffer is shorter
abbrev pub largest : ℕ
largest = 2 ^ 64 - 1

-- the position `count` bytes after another; the largest where it would pass that
abbrev pub after : ℕ → ℕ → ℕ
after at count = min (at + count) largest

-- a piece is written over a buffer from a position on, as far as the buffer reaches: the position after it, and the buffer then.
-- The position and the buffer's length are at most the largest number of 64 bits.
pub record Written (piece : List ℕ) (at : ℕ) (buffer : List ℕ) (at' : ℕ) (buffer' : List ℕ) : Type 0 where
  pub position_is : at' ≡ after at (length piece)
  pub buffer_is : buffer' ≡ sets buffer at piece
  pub within : (at ≤ largest) × (length buffer ≤ largest)
