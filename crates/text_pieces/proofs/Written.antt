-- Pieces written one after the other are their join, written at once.
use mathlib.Core.Path.{◌≡◌, refl, sym, ap, ◌∙◌}
use mathlib.Core.Logic.{⊎_elim}
use mathlib.Core.List.{List, [], ◌++◌, append_assoc}
use Prim.Native.Nat.{ℕ, ◌+◌, ◌-◌, ◌≤◌, ◌<◌, min}
use native.Mathlib.Nat.{eq-or-lt_of_le}
use native.Mathlib.Omega.{arith}
use lib.ListN.{length, take, drop, length-append, take-append-drop, drop_of_length-le}
use lib.Seq.{sets, sets-eq, length-sets, drop-drop, length-take-le}
use Rattle.lists.proofs.Sets.{sets-append, sets-past}
use Rattle.text_pieces.specs.Written.{largest, Written}

-- bytes put over the middle of a buffer
pub sets-mid : (p l : List ℕ) (i c : ℕ) → i + c ≤ length l → length p ≡ c → take i l ++ (p ++ drop c (drop i l)) ≡ sets l i p
sets-mid p l i c h e =
    let d : drop c (drop i l) ≡ drop (i + length p) l = rw (e, drop-drop c i l) refl in
    rw d (sym (append_assoc (take i l) p (drop (i + length p) l)) ∙ sym (sets-eq p l i (omega arith)))

-- the bytes that lie within the buffer are all that matters
pub sets-fitting : (p l : List ℕ) (i c : ℕ) → c ≡ min (length p) (length l - i) → sets l i (take c p) ≡ sets l i p
sets-fitting p l i c e =
    let split : sets l i p ≡ sets (sets l i (take c p)) (i + length (take c p)) (drop c p) =
    ap (sets l i) (sym (take-append-drop c p)) ∙ sets-append (take c p) (drop c p) l i in
    let long : length (take c p) ≡ c = length-take-le c p (omega arith) in
    let whole : length (sets l i (take c p)) ≡ length l = length-sets l i (take c p) in
    let few : c ≤ length p = omega arith in
    sym (split ∙ ⊎_elim (λ (h : c ≡ length p). let all : length p ≤ c = omega arith in ap (sets (sets l i (take c p)) (i + length (take c p))) (drop_of_length-le p all))
    (λ (h : c < length p). sets-past (drop c p) (sets l i (take c p)) (i + length (take c p)) (omega arith)) (eq-or-lt_of_le few))

-- nothing is written
pub written_none : {at : ℕ} {l : List ℕ} → at ≤ largest → length l ≤ largest → Written [] at l at l
written_none h k = record { position_is = omega arith; buffer_is = refl; within = (h, k) }

-- a piece, and then another
pub written_then : {p q l l₁ l₂ : List ℕ} {at at₁ at₂ : ℕ} → Written p at l at₁ l₁ → Written q at₁ l₁ at₂ l₂ → Written (p ++ q) at l at₂ l₂
written_then {p} {q} {l} {l₁} {l₂} {at} {at₁} {at₂} v w =
    let whole : length (p ++ q) ≡ length p + length q = length-append p q in
    let first = v.position_is in
    let second = w.position_is in
    let out : l₂ ≡ sets (sets l at p) at₁ q = w.buffer_is ∙ ap (λ (m : List ℕ). sets m at₁ q) v.buffer_is in
    let long : length (sets l at p) ≡ length l = length-sets l at p in
    let short : length l ≤ largest = v.within.1 in
    let few : at₁ ≤ at + length p = omega arith in
    let same : sets (sets l at p) at₁ q ≡ sets (sets l at p) (at + length p) q =
    ⊎_elim (λ (e : at₁ ≡ at + length p). ap (λ (n : ℕ). sets (sets l at p) n q) e)
    (λ (h : at₁ < at + length p). sets-past q (sets l at p) at₁ (omega arith) ∙ sym (sets-past q (sets l at p) (at + length p) (omega arith))) (eq-or-lt_of_le few) in
    record {
      position_is = omega arith;
      buffer_is = out ∙ same ∙ sym (sets-append p q l at);
      within = v.within;
    }

-- the buffer stays as long
pub written-length : {p l l' : List ℕ} {at at' : ℕ} → Written p at l at' l' → length l' ≡ length l
written-length {p} {l} {l'} {at} w = ap length w.buffer_is ∙ length-sets l at p
