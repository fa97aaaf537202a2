-- Laws of the lines of rows, one word on.
use mathlib.Core.Path.{◌≡◌, refl, ◌∙◌}
use mathlib.Core.List.{List, [], ◌++◌, append-nil, append_assoc}
use Prim.Native.Nat.{ℕ, ◌+◌, ◌≤◌, ◌<◌}
use native.Mathlib.Numerals.{add-one}
use native.Mathlib.Omega.{arith}
use lib.ListN.{length, drop, get_or, drop_of_length-le}
use lib.Seq.{drop-cons}
use Rattle.text_pieces.specs.declared.Pen.{Pen}
use Rattle.text_pieces.specs.Written.{largest}
use Rattle.text_pieces.specs.Wrote.{Wrote}
use Rattle.text_pieces.proofs.Wrote.{wrote_none, wrote_then}
use Rattle.ask_lines.specs.Lines.{word_text, left_after, row_lines}

-- the lines of the first i words are written, and those of the others are still to come
pub record SoFar (words : List ℕ) (width : ℕ) (pen pen' : Pen) (left i : ℕ) : Type 0 where
  pub text : List ℕ
  pub within : i ≤ length words
  pub is_written : Wrote text pen pen'
  pub rest : row_lines width width words ≡ text ++ row_lines width left (drop i words)

module _ {words : List ℕ} {width : ℕ} {pen : Pen} where
  pub none_yet : pen.at ≤ largest → length pen.out.now ≤ largest → SoFar words width pen pen width 0
  none_yet h k = record { text = []; within = omega arith; is_written = wrote_none h k; rest = refl }

  module _ {pen' : Pen} {left i : ℕ} (f : SoFar words width pen pen' left i) where
    pub one_more : {b : Pen} → i < length words → Wrote (word_text (get_or words i 0) left) pen' b
        → SoFar words width pen b (left_after left width) (i + 1)
    unfolding row_lines
    one_more h w =
        record {
          text = f.text ++ word_text (get_or words i 0) left;
          within = omega arith;
          is_written = wrote_then f.is_written w;
          rest = f.rest ∙ rw (drop-cons words i 0 h, add-one, append_assoc);
        }

    pub all-written : length words ≤ i → Wrote (row_lines width width words) pen pen'
    unfolding row_lines
    all-written h =
        let e : row_lines width width words ≡ f.text = f.rest ∙ rw (drop_of_length-le words h, append-nil) in
        rw e f.is_written
