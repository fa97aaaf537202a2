-- docs/LAYOUT.md, "The program's capacities".
use Rattle.std.specs.Prelude.{ℕ}

-- a text is shorter than this many bytes; what is written stands in the same buffer
abbrev pub text_bytes : ℕ
text_bytes = 2097152

-- and has at most this many numbers
abbrev pub word_count : ℕ
word_count = 131072

-- the words of rows that are read at a time
abbrev pub window_words : ℕ
window_words = 65536
