-- A run of the program, as the contracts of its parts describe it, and the bytes that it hands over.
use Rattle.std.specs.Prelude.{◌≡◌, ℕ, ◌+◌, Option, None, Some, Ok, Err, List, [], ◌++◌, length, take}
use Rattle.refusal.specs.Verdict.{Refusal}
use Rattle.ask_answer.specs.declared.Following.{Following}
use Rattle.ask_answer.specs.declared.Part.{Part}
use Rattle.ask_answer.specs.Capacity.{text_bytes, word_count, window_words}
use Rattle.ask_answer.specs.Parts.{Reads, Begins, GoesOn}

-- what is handed over after a part: nothing after the last, or where evaluation is refused; else the bytes of the next, and what is handed over
-- after that
pub data Rest (ws : List ℕ) : Option Following → List ℕ → List ℕ → List ℕ → Type 0 where
  ends : {rows out : List ℕ} → Rest ws None rows out []
  stops : {f : Following} {r : Refusal} {rows out rows' out' : List ℕ} → GoesOn ws f rows out (Err r) rows' out' → Rest ws (Some f) rows out []
  goes : {f : Following} {p : Part} {rows out rows' out' bytes : List ℕ} → GoesOn ws f rows out (Ok p) rows' out' → Rest ws p.following rows' out' bytes
      → Rest ws (Some f) rows out (take p.length out' ++ bytes)

-- the most parts that are to come: none after the last; else one for each row that is left to show, and one more
abbrev pub to_come : Option Following → ℕ
to_come None = 0
to_come (Some f) = f.left + 1

-- a text is read, and the bytes of the first part and what comes after it are handed over; for buffers of the program's sizes
pub data Run (text : List ℕ) : List ℕ → Type 0 where
  run : {words words' out out' rows bytes : List ℕ} {count : ℕ} {p : Part} → length words ≡ word_count → length out ≡ text_bytes → length rows ≡ window_words
      → Reads text words count words' → Begins (take count words') out p out' → Rest (take count words') p.following rows out' bytes
      → Run text (take p.length out' ++ bytes)
