-- No second answer fits the promise of this crate.
use mathlib.Core.Path.{◌≡◌, sym, ◌∙◌}
use mathlib.Core.List.{List}
use Prim.Native.Nat.{ℕ}
use lib.ListN.{length}
use Rattle.std.specs.Prelude.{Option}
use Rattle.ask_numbers.specs.Words.{read_of, words_after}

-- `read_words`: the answer, and the buffer after it
pub read-words-one : (text buffer : List ℕ) {r s : Option ℕ} {b c : List ℕ} → r ≡ read_of text (length buffer) → s ≡ read_of text (length buffer)
    → b ≡ words_after text buffer → c ≡ words_after text buffer → (r ≡ s) × (b ≡ c)
read-words-one text buffer e f g h = (e ∙ sym f, g ∙ sym h)
