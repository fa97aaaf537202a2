-- Laws of the parts: when one is there, and when the whole input is in the layout.
use mathlib.Core.Path.{◌≡◌, refl, sym}
use mathlib.Core.Bool.{Bool, true, false, ◌&&◌, false≢true}
use mathlib.Core.List.{List, [], ◌∷◌}
use Prim.Native.Nat.{ℕ, zero, suc, ◌+◌, ◌-◌, ◌*◌, ◌/◌, ◌≤◌, ◌<◌}
use native.Mathlib.Nat.{le-div_iff_mul-le, div-lt_iff_lt-mul}
use native.Mathlib.Numerals.{add-one}
use native.Mathlib.Omega.{arith}
use lib.ListN.{length, drop, get_or, length-drop}
use lib.Seq.{drop-cons}
use lib.Dec.{leb}
use borrow.Author.Tests.{leb-true, lt-leb, le-leb, lt-ltb, le-ltb}
use Rattle.std.specs.Prelude.{IsTrue, EachIndex, slice_index, ◌↔◌}
use Rattle.ask_question.specs.declared.Parts.{Parts}
use Rattle.ask_question.specs.Parts.{no_part, part_from, part_at, items_of, are_kinds, are_bytes, inside_with}

module _ (ws : List ℕ) (at width : ℕ) where
  pub part-past : length ws ≤ at → no_part (length ws) ≡ part_at ws at width
  unfolding part_at
  part-past h = rw (le-ltb at (length ws) h)

  module _ (some : 0 < width) (h : at < length ws) where
    pub part-short : (length ws - (at + 1)) / width < get_or ws at 0 → no_part (length ws) ≡ part_at ws at width
    unfolding part_at
    part-short s = rw (lt-ltb at (length ws) h, lt-leb (get_or ws at 0 * width) (length ws - (at + 1)) ((div-lt_iff_lt-mul some).0 s))

    pub part-fits : get_or ws at 0 ≤ (length ws - (at + 1)) / width → get_or ws at 0 * width ≤ length ws - (at + 1)
    part-fits s = (le-div_iff_mul-le some).0 s

    pub part-there : get_or ws at 0 ≤ (length ws - (at + 1)) / width → part_from at (get_or ws at 0) width ≡ part_at ws at width
    unfolding part_at
    part-there s = rw (lt-ltb at (length ws) h, le-leb (get_or ws at 0 * width) (length ws - (at + 1)) (part-fits s))

pub both_true : (p q : Bool) → p && q ≡ true → (p ≡ true) × (q ≡ true)
both_true true q h = (refl, h)
both_true false q h = absurd (false≢true h)

pub byte_at : (ws : List ℕ) (i : ℕ) → are_bytes ws ≡ true → i < length ws → get_or ws i 0 ≤ 255
unfolding are_bytes
byte_at [] i e h = omega arith
byte_at (w ∷ ws) zero e h = leb-true w 255 (both_true (leb w 255) (are_bytes ws) e).0
byte_at (w ∷ ws) (suc i) e h = byte_at ws i (both_true (leb w 255) (are_bytes ws) e).1 (omega arith)

-- kinds, one statement on
kinds-short : (l : List ℕ) → length l < 4 → true ≡ are_kinds l
unfolding are_kinds
kinds-short [] h = refl
kinds-short (e ∷ []) h = refl
kinds-short (e ∷ a ∷ []) h = refl
kinds-short (e ∷ a ∷ k ∷ []) h = refl
kinds-short (e ∷ a ∷ k ∷ v ∷ l) h = absurd (omega arith)

module _ (ws : List ℕ) (i : ℕ) where
  pub kinds-end : length ws - i < 4 → true ≡ are_kinds (drop i ws)
  kinds-end h = let l = length-drop i ws in kinds-short (drop i ws) (omega arith)

  module _ (h : 4 ≤ length ws - i) where
    four : drop i ws ≡ get_or ws i 0 ∷ get_or ws (i + 1) 0 ∷ get_or ws (i + 2) 0 ∷ get_or ws (i + 3) 0 ∷ drop (i + 4) ws
    four =
        let a : drop i ws ≡ get_or ws i 0 ∷ drop (i + 1) ws = rw add-one (drop-cons ws i 0 (omega arith)) in
        let b : drop (i + 1) ws ≡ get_or ws (i + 1) 0 ∷ drop (i + 2) ws = on 1 (omega arith) in
        let c : drop (i + 2) ws ≡ get_or ws (i + 2) 0 ∷ drop (i + 3) ws = on 2 (omega arith) in
        let d : drop (i + 3) ws ≡ get_or ws (i + 3) 0 ∷ drop (i + 4) ws = on 3 (omega arith) in
        rw (a, b, c, d)
      where
        on : (k : ℕ) → i + k < length ws → drop (i + k) ws ≡ get_or ws (i + k) 0 ∷ drop (i + (k + 1)) ws
        on k g = let e : i + (k + 1) ≡ suc (i + k) = omega arith in rw e (drop-cons ws (i + k) 0 g)

    pub kinds-no : 1 < get_or ws (i + 2) 0 → are_kinds (drop i ws) ≡ false
    unfolding are_kinds
    kinds-no k = rw (four, lt-leb (get_or ws (i + 2) 0) 1 k)

    pub kinds-on : get_or ws (i + 2) 0 ≤ 1 → are_kinds (drop i ws) ≡ are_kinds (drop (i + 4) ws)
    unfolding are_kinds
    kinds-on k = rw (four, le-leb (get_or ws (i + 2) 0) 1 k)

-- the tests of the layout, in their order
module _ (ws : List ℕ) (p : Parts) where
  pub outside-parts : p.eavt.inside ≡ false → false ≡ inside_with ws p
  unfolding inside_with
  outside-parts h = rw h

  module _ (parts : p.eavt.inside ≡ true) where
    pub outside-more : p.eavt.next < length ws → false ≡ inside_with ws p
    unfolding inside_with
    outside-more h = rw (parts, lt-leb (length ws) p.eavt.next h)

    module _ (whole : length ws ≤ p.eavt.next) where
      pub outside-task : 3 < get_or ws 0 0 → false ≡ inside_with ws p
      unfolding inside_with
      outside-task h = rw (parts, le-leb (length ws) p.eavt.next whole, lt-leb (get_or ws 0 0) 3 h)

      module _ (task : get_or ws 0 0 ≤ 3) where
        pub outside-kinds : are_kinds (items_of ws p.statements) ≡ false → false ≡ inside_with ws p
        unfolding inside_with
        outside-kinds h = rw (parts, le-leb (length ws) p.eavt.next whole, le-leb (get_or ws 0 0) 3 task, h)

        pub inside-bytes : are_kinds (items_of ws p.statements) ≡ true → are_bytes (items_of ws p.names) ≡ inside_with ws p
        unfolding inside_with
        inside-bytes h = rw (parts, le-leb (length ws) p.eavt.next whole, le-leb (get_or ws 0 0) 3 task, h)

-- bytes where a test of each says so
bytes-every : (ws : List ℕ) → are_bytes ws ≡ true ↔ EachIndex ws (λ k. slice_index ws k ≤ 255)
unfolding are_bytes
bytes-every [] = (λ e i h. absurd (omega (arith, h)), λ e. refl)
bytes-every (w ∷ ws) = let rest = bytes-every ws in (forth, back rest.1)
  where
    forth : leb w 255 && are_bytes ws ≡ true → EachIndex (w ∷ ws) (λ k. slice_index (w ∷ ws) k ≤ 255)
    forth e i h = byte_at (w ∷ ws) i e h

    back : (EachIndex ws (λ k. slice_index ws k ≤ 255) → are_bytes ws ≡ true) → EachIndex (w ∷ ws) (λ k. slice_index (w ∷ ws) k ≤ 255) → leb w 255 && are_bytes ws ≡ true
    back rest f = rw (le-leb w 255 (f 0 (omega arith)), rest (λ i h. f (suc i) (omega (arith, h))))

same-true : (p q : Bool) → p ≡ true ↔ q ≡ true → p ≡ q
same-true true q h = sym (h.0 refl)
same-true false true h = h.1 refl
same-true false false h = refl

pub bytes-are : (ws : List ℕ) (r : Bool) → IsTrue r ↔ EachIndex ws (λ k. slice_index ws k ≤ 255) → r ≡ are_bytes ws
bytes-are ws r h = let e = bytes-every ws in same-true r (are_bytes ws) (λ t. e.1 (h.0 t), λ t. h.1 (e.0 t))
