-- docs/REPLAY.md, "What is read".
use Rattle.std.specs.Prelude.{ℕ}

-- the cases are shorter than this many bytes
abbrev pub text_bytes : ℕ
text_bytes = 1048576
