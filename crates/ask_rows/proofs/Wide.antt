-- Rows of one width: how many words they are, and that their lines stand one after the other.
use mathlib.Core.Path.{◌≡◌, refl, sym, ap, ◌∙◌}
use mathlib.Core.List.{List, [], ◌∷◌, ◌++◌, map, append_assoc}
use Prim.Native.Nat.{ℕ, zero, suc, ◌*◌, ◌-◌, ◌<◌}
use native.Mathlib.Nat.{suc-mul}
use native.Mathlib.Omega.{arith}
use borrow.Author.Tests.{lt-leb}
use mathlib.Core.Bool.{false}
use lib.Dec.{leb}
use lib.ListN.{length, take, drop, length-append}
use Rattle.tables.specs.Rows.{flat}
use Rattle.tables.proofs.Table.{flat_append}
use Rattle.ask_lines.specs.Lines.{word_text, left_after, row_lines}
use Rattle.ask_rows.specs.Windows.{lines_of}

-- each row has w words
pub data Wide : ℕ → List (List ℕ) → Type 0 where
  none : {w : ℕ} → Wide w []
  more : {w : ℕ} {r : List ℕ} {rs : List (List ℕ)} → length r ≡ w → Wide w rs → Wide w (r ∷ rs)

pub wide-take : {w : ℕ} {rs : List (List ℕ)} (n : ℕ) → Wide w rs → Wide w (take n rs)
wide-take zero d = none
wide-take (suc n) none = none
wide-take (suc n) (more e d) = more e (wide-take n d)

pub wide-drop : {w : ℕ} {rs : List (List ℕ)} (n : ℕ) → Wide w rs → Wide w (drop n rs)
wide-drop zero d = d
wide-drop (suc n) none = none
wide-drop (suc n) (more e d) = wide-drop n d

pub wide-map : {A : Type 0} (w : ℕ) (f : A → List ℕ) → ((x : A) → length (f x) ≡ w) → (xs : List A) → Wide w (map f xs)
wide-map w f h [] = none
wide-map w f h (x ∷ xs) = more (h x) (wide-map w f h xs)

pub flat_long : {w : ℕ} {rs : List (List ℕ)} → Wide w rs → length (flat rs) ≡ length rs * w
unfolding flat
flat_long none = omega arith
flat_long (more {r = r} {rs = rs} e d) = length-append r (flat rs) ∙ rw (e, flat_long d, suc-mul) (omega arith)

-- a row's words, and then others
row-append : (width left : ℕ) (xs ys : List ℕ) → length xs ≡ suc left → row_lines width (suc left) (xs ++ ys) ≡ row_lines width (suc left) xs ++ row_lines width width ys
unfolding row_lines left_after
row-append width left [] ys e = absurd (let z : 0 ≡ suc left = e in omega arith)
row-append width zero (x ∷ []) ys e = sym (append_assoc (word_text x 1) [] (row_lines width width ys))
row-append width zero (x ∷ y ∷ xs) ys e = absurd (let z : suc (suc (length xs)) ≡ 1 = e in omega arith)
row-append width (suc left) (x ∷ xs) ys e =
    let more : leb (suc (suc left)) 1 ≡ false = lt-leb (suc (suc left)) 1 (omega arith) in
    let rest = row-append width left xs ys (let z : suc (length xs) ≡ suc (suc left) = e in omega arith) in
    let less : suc (suc left) - 1 ≡ suc left = omega arith in
    rw (more, less, rest) (sym (append_assoc (word_text x (suc (suc left))) (row_lines width (suc left) xs) (row_lines width width ys)))

flat-lines : (w : ℕ) {rs : List (List ℕ)} (ys : List ℕ) → Wide (suc w) rs → row_lines (suc w) (suc w) (flat rs ++ ys) ≡ row_lines (suc w) (suc w) (flat rs) ++ row_lines (suc w) (suc w) ys
unfolding flat row_lines
flat-lines w ys none = refl
flat-lines w ys (more {r = r} {rs = rs} e d) =
    let a = row-append (suc w) w r (flat rs ++ ys) e in
    let b = row-append (suc w) w r (flat rs) e in
    rw (append_assoc r (flat rs) ys, a, b, flat-lines w ys d) (sym (append_assoc (row_lines (suc w) (suc w) r) (row_lines (suc w) (suc w) (flat rs)) (row_lines (suc w) (suc w) ys)))

-- the lines of rows and of those after them
pub lines-append : (w : ℕ) (a b : List (List ℕ)) → 0 < w → Wide w a → lines_of w (a ++ b) ≡ lines_of w a ++ lines_of w b
unfolding lines_of
lines-append zero a b h d = absurd (omega arith)
lines-append (suc w) a b h d = ap (row_lines (suc w) (suc w)) (flat_append a b) ∙ flat-lines w (flat b) d
