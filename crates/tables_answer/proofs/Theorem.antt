-- What is written for a heap is the end of a question: read as a question is, it says the three tables that were built.
use mathlib.Core.Path.{◌≡◌, refl}
use mathlib.Core.Bool.{true}
use mathlib.Core.List.{List, ◌∷◌, ◌++◌}
use Prim.Native.Nat.{ℕ, ◌*◌, ◌^◌, ◌<◌}
use native.Mathlib.Omega.{arith}
use lib.ListN.{length}
use Rattle.std.specs.Prelude.{Ok}
use Rattle.datom.specs.Fact.{words, aevt_row, avet_row, eavt_row}
use Rattle.tables.specs.Rows.{flat}
use Rattle.tables_build.specs.Build.{heap_fault, built_rows}
use Rattle.tables_build.proofs.Answers.{heap-fits}
use Rattle.tables_build.proofs.Theorem.{few-rows, aevt-long, avet-long, eavt-long}
use Rattle.ask_numbers.specs.Words.{said}
use Rattle.tables_answer.specs.Capacity.{heap_words}
use Rattle.tables_answer.specs.Answer.{holds_heap, heap_in, heap_answer_for, heap_answer_to}
use Rattle.tables_answer.proofs.Words.{said-words, words-drop, built-words, three}
use Rattle.tables_answer.proofs.Said.{parts_said}

-- three tables as a question has them: each a count, and as many numbers
abbrev pub table_numbers : List ℕ → List ℕ → List ℕ → List ℕ
table_numbers a b c = length a ∷ (a ++ (length b ∷ (b ++ (length c ∷ c))))

-- what is written for a text that holds a heap, and is not refused, says the three parts of a question: those of its tables
pub answer-said : (text : List ℕ) → holds_heap text ≡ true → heap_fault (length (heap_in text)) heap_words heap_words heap_words ≡ Ok tt →
    let h = heap_in text in
    said (heap_answer_to text) ≡ record { inside = true; words = table_numbers (flat (built_rows aevt_row h)) (flat (built_rows avet_row h)) (flat (built_rows eavt_row h)) }
unfolding heap_answer_to heap_answer_for
answer-said text holds fine =
    let h = heap_in text in
    let w = words-drop 1 (said text).words (said-words text) in
    let room = (heap-fits (length h) heap_words heap_words heap_words fine).aevt in
    let few = few-rows aevt_row (λ f. refl) h in
    let short : words * length (built_rows aevt_row h) < 2 ^ 64 = omega (arith, room, few) in
    rw (holds, fine)
    (parts_said (flat (built_rows aevt_row h)) (flat (built_rows avet_row h)) (flat (built_rows eavt_row h)) (rw (aevt-long h) short) (rw (avet-long h) short) (rw (eavt-long h) short)
    (built-words h w aevt_row (λ f. refl) (λ f p q r. three _ _ _ q p r)) (built-words h w avet_row (λ f. refl) (λ f p q r. three _ _ _ q r p)) (built-words h w eavt_row (λ f. refl) (λ f p q r. three _ _ _ p q r)))
