-- docs/LAYOUT.md, "The tables of a heap": the program's capacities.
use Rattle.std.specs.Prelude.{ℕ, ◌+◌, ◌*◌}
use Rattle.ask_lines.specs.Lines.{word_bytes}

-- a text is shorter than this many bytes
abbrev pub text_bytes : ℕ
text_bytes = 1048576

-- and its heap has at most this many words
abbrev pub heap_words : ℕ
heap_words = 33000

-- the longest answer: three tables as long as the heap, each with its count
abbrev pub answer_bytes : ℕ
answer_bytes = 3 * (word_bytes * (1 + heap_words))
