-- docs/REPLAY.md, "What is read".
use Rattle.std.specs.Prelude.{ℕ}

-- the longest buffer for a text
abbrev pub buffer_bytes : ℕ
buffer_bytes = 4096
