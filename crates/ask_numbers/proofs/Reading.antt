-- Laws of reading: the numbers so far stand in front of the buffer, and the rest is still to be said.
use mathlib.Core.Path.{◌≡◌, refl, sym, ap, ◌∙◌}
use mathlib.Core.Bool.{Bool, true, false, cond, ◌&&◌}
use mathlib.Core.List.{List, [], ◌∷◌, ◌++◌, append-nil, append_assoc}
use Prim.Native.Nat.{ℕ, suc, ◌+◌, ◌≤◌, ◌<◌}
use native.Mathlib.Numerals.{add-one}
use native.Mathlib.Omega.{arith}
use lib.ListN.{length, take, drop, set, length-append, length-set, drop_of_length-le}
use lib.Seq.{take_all, take_at, take-suc-set, drop_at, drop-drop, set_split, length-take-le}
use borrow.Author.Tests.{le-leb, lt-leb}
use Rattle.std.specs.Prelude.{Some, None}
use Rattle.ask_numbers.specs.Steps.{Skipped}
use Rattle.ask_numbers.specs.Words.{Said, in_front, end, outside, said, read_from, over, read_of, words_after}

no_room : {A : Type 0} (i b : Bool) (x y : A) → b ≡ false → y ≡ cond (i && b) x y
no_room true b x y h = rw h
no_room false b x y h = refl

module _ (ws buffer : List ℕ) (s : Said) where
  module _ (room : length ws ≤ length buffer) where
    -- all was said
    pub ends-answer : s ≡ in_front ws end → Some (length ws) ≡ read_from s (length buffer)
    unfolding read_from
    ends-answer e = rw (e, append-nil, le-leb (length ws) (length buffer) room)

    pub over-all : (b : Said) → b.words ≡ [] → s ≡ in_front ws b → ws ++ drop (length ws) buffer ≡ over s.words buffer
    unfolding over
    over-all b n e = rw (e, n, append-nil, take_all (length buffer) ws room)

  -- the text is outside the layout
  pub leaves-answer : s ≡ in_front ws outside → None ≡ read_from s (length buffer)
  unfolding read_from
  leaves-answer e = rw e

  -- there is no room for one more
  module _ (v : ℕ) (t : Said) (full : length ws ≡ length buffer) (e : s ≡ in_front ws (in_front (v ∷ []) t)) where
    pub full-answer : None ≡ read_from s (length buffer)
    unfolding read_from
    full-answer =
        let l = length-append ws (v ∷ t.words) in
        let m : length buffer < length (ws ++ (v ∷ t.words)) = omega arith in
        rw e (no_room t.inside _ _ _ (lt-leb (length (ws ++ (v ∷ t.words))) (length buffer) m))

    pub full-over : ws ++ drop (length ws) buffer ≡ over s.words buffer
    unfolding over
    full-over =
        let l = length-append ws (v ∷ t.words) in
        let p : length buffer ≤ length (ws ++ (v ∷ t.words)) = omega arith in
        let q : length buffer ≤ length ws = omega arith in
        rw (
          e,
          take_at ws (v ∷ t.words) (length buffer) full,
          drop_of_length-le buffer p,
          drop_of_length-le buffer q,
          append-nil,
        )

-- past the numbers so far the buffer is as it was, one further too
drops : (words buffer : List ℕ) (count : ℕ) → count < length words → count ≤ length buffer → words ≡ take count words ++ drop count buffer
    → drop (suc count) words ≡ drop (suc count) buffer
drops words buffer count h k e =
    let l : length (take count words) ≡ count = length-take-le count words (omega arith) in
    let d : drop count words ≡ drop count buffer = ap (drop count) e ∙ drop_at (take count words) (drop count buffer) count l in
    let n : drop (count + 1) words ≡ drop (count + 1) buffer = sym (drop-drop 1 count words) ∙ ap (drop 1) d ∙ drop-drop 1 count buffer in
    rw add-one at n

-- after `at` bytes of the text: the first `count` words of the buffer are its numbers so far, and the others are as they were
pub record SoFar (text buffer words : List ℕ) (at count : ℕ) : Type 0 where
  pub within : at ≤ length text
  pub room : count ≤ length buffer
  pub as_long : length words ≡ length buffer
  pub rest : said text ≡ in_front (take count words) (said (drop at text))
  pub front : words ≡ take count words ++ drop count buffer

-- none is read yet, spaces are passed over
pub so_far_begins : (text buffer : List ℕ) {at : ℕ} → Skipped text 0 at → SoFar text buffer buffer at 0
so_far_begins text buffer s = record { within = s.within; room = omega arith; as_long = refl; rest = s.same; front = refl }

module _ {text buffer words : List ℕ} {at count : ℕ} (f : SoFar text buffer words at count) where
  counted : length (take count words) ≡ count
  counted = length-take-le count words (omega (arith, f.room, f.as_long))

  front-is : words ≡ take count words ++ drop (length (take count words)) buffer
  front-is = rw counted f.front

  fits : length (take count words) ≤ length buffer
  fits = omega (arith, counted, f.room)

  pub so-far-ends : said (drop at text) ≡ end
      → (Some count ≡ read_of text (length buffer)) × (words ≡ words_after text buffer)
  so-far-ends e =
      let s : said text ≡ in_front (take count words) end = rw e at f.rest in (
        rw counted at (ends-answer (take count words) buffer (said text) fits s),
        front-is ∙ over-all (take count words) buffer (said text) fits end refl s,
      )

  pub so-far-leaves : said (drop at text) ≡ outside → (None ≡ read_of text (length buffer)) × (words ≡ words_after text buffer)
  so-far-leaves e =
      let s : said text ≡ in_front (take count words) outside = rw e at f.rest in
      (leaves-answer (take count words) buffer (said text) s, front-is ∙ over-all (take count words) buffer (said text) fits outside refl s)

  pub so-far-full : (v : ℕ) (t : Said) → length buffer ≤ count → said (drop at text) ≡ in_front (v ∷ []) t
      → (None ≡ read_of text (length buffer)) × (words ≡ words_after text buffer)
  so-far-full v t h e =
      let s : said text ≡ in_front (take count words) (in_front (v ∷ []) t) = rw e at f.rest in
      let l : length (take count words) ≡ length buffer = omega (arith, counted, f.room) in
      (full-answer (take count words) buffer (said text) v t l s, front-is ∙ full-over (take count words) buffer (said text) v t l s)

  -- one more is read, and spaces are passed over
  pub so_far_on : (v next : ℕ) {at' : ℕ} → count < length words → said (drop at text) ≡ in_front (v ∷ []) (said (drop next text)) → Skipped text next at'
      → SoFar text buffer (set words count v) at' (count + 1)
  so_far_on v next {at'} h e k =
      let t : take (count + 1) (set words count v) ≡ take count words ++ (v ∷ []) = rw (add-one, take-suc-set words count v h) in
      let s : said text ≡ in_front (take count words) (in_front (v ∷ []) (said (drop at' text))) = rw (e, k.same) at f.rest in
      record {
        within = k.within;
        room = omega (arith, f.as_long);
        as_long = simp length-set f.as_long;
        rest = s ∙ simp (t, append_assoc);
        front =
            rw (t, add-one, append_assoc) (set_split words count v h ∙ rw (drops words buffer count h f.room f.front));
      }
