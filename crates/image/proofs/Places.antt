-- What a reader over bytes tests at a bit's number: room for a field, and the end.
use mathlib.Core.Path.{◌≡◌, refl, sym, ap, ◌∙◌}
use Prim.Native.Nat.{ℕ, zero, suc, ◌+◌, ◌-◌, ◌*◌, ◌/◌, ◌%◌, ◌^◌, ◌<◌, ◌≤◌}
use mathlib.Core.List.{List, [], ◌∷◌}
use mathlib.Core.Bool.{Bool, true, false, not, cond}
use native.Mathlib.Omega.{arith}
use native.Mathlib.Nat.{suc-mul}
use borrow.Author.Tests.{ltb-true, ltb-false, lt-ltb, le-ltb, ne_eqb}
use lib.ListN.{length, get_or, take, drop, length-drop}
use lib.Pow.{pow_pos}
use lib.Seq.{drop-drop}
use lib.Dec.{ltb, eqb, eqb-suc-zero}
use Rattle.refusal.specs.Verdict.{refuse_if, or_else}
use Rattle.bits.specs.Bits.{bits, number, number_from, unpacked, padding}
use Rattle.bits.proofs.Laws.{unpacked-length}
use Rattle.bits.proofs.Steps.{number-from, number-bits-mod, byte-part}
use Rattle.image.specs.Read.{met, stopped, ran_out, field, all_zero, end_fault}

-- two tests that come out alike
pub ltb-alike : (a b c d : ℕ) → (a < b → c < d) → (b ≤ a → d ≤ c) → ltb a b ≡ ltb c d
ltb-alike a b c d f g = go (ltb a b) refl
  where
    go : (t : Bool) → ltb a b ≡ t → t ≡ ltb c d
    go true e = sym (lt-ltb c d (f (ltb-true a b e)))
    go false e = sym (le-ltb c d (g (ltb-false a b e)))

-- a field that begins at bit `at` of bytes
pub field_at : (w at : ℕ) (b : List ℕ) → at ≤ 8 * length b
    → field w (drop at (unpacked b)) at
    ≡ cond (ltb (8 * length b) (at + w)) (stopped (ran_out (at / 8))) (met (number (take w (drop at (unpacked b)))) (drop (at + w) (unpacked b)) (at + w))
unfolding field
field_at w at b h =
    let long : length (drop at (unpacked b)) ≡ 8 * length b - at = length-drop at (unpacked b) ∙ rw (unpacked-length b) refl in
    let t : ltb (length (drop at (unpacked b))) w ≡ ltb (8 * length b) (at + w) =
    ltb-alike (length (drop at (unpacked b))) w (8 * length b) (at + w) (λ (k : length (drop at (unpacked b)) < w). omega arith) (λ (k : w ≤ length (drop at (unpacked b))). omega arith) in
    rw (t, drop-drop w at (unpacked b)) refl

-- bits are all zero where their number is
all-zero-number : (l : List ℕ) → all_zero l ≡ eqb (number l) 0
unfolding all_zero number_from
all-zero-number [] = refl
all-zero-number (zero ∷ l) = all-zero-number l
all-zero-number (suc b ∷ l) =
    let e = number-from l (0 * 2 + suc b) in
    let n = 2 ^ length l in
    let p : 0 < n = pow_pos (length l) in
    let z : 0 * 2 + suc b ≡ suc b = omega arith in
    let g : (0 * 2 + suc b) * n ≡ b * n + n = ap (λ (x : ℕ). x * n) z ∙ suc-mul b n in
    let f : eqb (number_from (0 * 2 + suc b) l) 0 ≡ false = ne_eqb _ 0 (λ (q : number_from (0 * 2 + suc b) l ≡ 0). omega arith) in
    rw (eqb-suc-zero b) (sym f)

-- the pad bits are all zero where the last byte says so
pad-zero : (at : ℕ) (b : List ℕ) → at ≤ 8 * length b → all_zero (take (padding at) (drop at (unpacked b))) ≡ eqb (get_or b (at / 8) 0 % 2 ^ padding at) 0
unfolding all_zero
pad-zero at b h = go (padding at) refl
  where
    go : (n : ℕ) → padding at ≡ n → all_zero (take n (drop at (unpacked b))) ≡ eqb (get_or b (at / 8) 0 % 2 ^ n) 0
    go zero e = let z : get_or b (at / 8) 0 % 1 ≡ 0 = omega arith in rw z refl
    go (suc n) e =
        let i = at / 8 in
        let k = at % 8 in
        let lt : i < length b = omega arith in
        let s : k + (suc n + 0) ≡ 8 = omega arith in
        let p : at ≡ 8 * i + k = omega arith in
        let q : take (suc n) (drop at (unpacked b)) ≡ bits (suc n) (get_or b i 0 / 2 ^ 0) = ap (λ (x : ℕ). take (suc n) (drop x (unpacked b))) p ∙ byte-part i k (suc n) 0 b lt s in
        let o : get_or b i 0 / 2 ^ 0 ≡ get_or b i 0 = omega arith in
        rw (q, o) (all-zero-number (bits (suc n) (get_or b i 0)) ∙ ap (λ (x : ℕ). eqb x 0) (number-bits-mod (suc n) (get_or b i 0)))

-- the end at bit `at` of bytes: 62 by the last byte, 63 by the length
pub end-at : (at : ℕ) (b : List ℕ) → at ≤ 8 * length b
    → end_fault (drop at (unpacked b)) at
    ≡ or_else (refuse_if (not (eqb (get_or b (at / 8) 0 % 2 ^ padding at) 0)) 62 (at / 8)) (refuse_if (ltb ((at + padding at) / 8) (length b)) 63 ((at + padding at) / 8))
unfolding end_fault
end-at at b h =
    let long : length (drop at (unpacked b)) ≡ 8 * length b - at = length-drop at (unpacked b) ∙ rw (unpacked-length b) refl in
    let t : ltb (padding at) (length (drop at (unpacked b))) ≡ ltb ((at + padding at) / 8) (length b) =
    ltb-alike (padding at) (length (drop at (unpacked b))) ((at + padding at) / 8) (length b)
    (λ (k : padding at < length (drop at (unpacked b))). omega arith) (λ (k : length (drop at (unpacked b)) ≤ padding at). omega arith) in
    rw (pad-zero at b h, t) refl
