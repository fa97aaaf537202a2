-- No numbers are not a question: a text outside the layout, of which none are read, gets the fixed line.
use mathlib.Core.Path.{◌≡◌, refl}
use Prim.Native.Nat.{ℕ}
use mathlib.Core.List.{[]}
use Rattle.ask_question.specs.Parts.{part_at, checks_types, types_at, parts_of, inside_with}
use Rattle.ask_opening.specs.Question.{is_question}
use Rattle.ask_opening.specs.Opening.{outside, opening_of}

pub nothing-outside : (room : ℕ) → opening_of [] room ≡ outside
unfolding opening_of is_question inside_with parts_of types_at checks_types part_at
nothing-outside room = refl
