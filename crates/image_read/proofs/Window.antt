-- The number of a field, by the number of the bytes that it lies in; and of a long one, by those of its two parts.
use mathlib.Core.Path.{◌≡◌, refl, sym, ap, ◌∙◌}
use Prim.Native.Nat.{ℕ, ◌+◌, ◌-◌, ◌*◌, ◌/◌, ◌%◌, ◌^◌, ◌<◌, ◌≤◌}
use mathlib.Core.List.{List, [], ◌++◌}
use native.Mathlib.Omega.{arith}
use native.Mathlib.Nat.{lt_of_lt_of_le, add-zero}
use lib.ListN.{length, get_or, take, drop, length-drop, take-append-drop}
use lib.Dec.{ltb}
use lib.Pow.{pow_mono, pow-add}
use lib.Seq.{take-add, take-append-le, drop-append-le, drop-drop, length-take-le}
use Rattle.bits.specs.Bits.{bits, number_from, number, unpacked, AllBelow}
use Rattle.bits.proofs.Laws.{bits-number, number_lt, below-take, below-drop, unpacked-below, unpacked-length}
use Rattle.bits.proofs.Steps.{number_append, number-bits-mod, bits-part, read_step}
use Rattle.image.proofs.Places.{ltb-alike}

-- so many bits from a bit on, and how long that is
abbrev pub bits_at : List ℕ → ℕ → ℕ → List ℕ
bits_at b at w = take w (drop at (unpacked b))

module _ (b : List ℕ) (at w : ℕ) (there : at + w ≤ 8 * length b) where
  pub bits-at-length : length (bits_at b at w) ≡ w
  bits-at-length =
      let e : length (drop at (unpacked b)) ≡ 8 * length b - at = length-drop at (unpacked b) ∙ rw (unpacked-length b) refl in
      length-take-le w (drop at (unpacked b)) (omega arith)

  bits-at-below : AllBelow 2 (bits_at b at w)
  bits-at-below = below-take 2 w (drop at (unpacked b)) (below-drop 2 at (unpacked b) (unpacked-below b))

  -- the number fits so many bits, and they are its bits
  pub bits-at-lt : number (bits_at b at w) < 2 ^ w
  bits-at-lt = let h = number_lt (bits_at b at w) bits-at-below in rw bits-at-length at h

  bits-at-bits : bits w (number (bits_at b at w)) ≡ bits_at b at w
  bits-at-bits = let e = bits-number (bits_at b at w) bits-at-below in rw bits-at-length at e

-- a field has no room among the bits exactly if not all bytes that it lies in are there
pub bytes-short : (len byte bit w : ℕ) → bit < 8 → 8 * byte + bit ≤ 8 * len → ltb (len - byte) ((bit + w + 7) / 8) ≡ ltb (8 * len) (8 * byte + bit + w)
bytes-short len byte bit w h k =
    ltb-alike (len - byte) ((bit + w + 7) / 8) (8 * len) (8 * byte + bit + w)
    (λ (s : len - byte < (bit + w + 7) / 8). omega arith) (λ (s : (bit + w + 7) / 8 ≤ len - byte). omega arith)

-- no bytes
pub no_bytes : 0 ≡ number []
unfolding number_from
no_bytes = refl

-- one byte more
pub byte_more : (b : List ℕ) (from i : ℕ) → from + i < length b → get_or b (from + i) 0 < 256
    → number (bits_at b (8 * from) (8 * (i + 1))) ≡ number (bits_at b (8 * from) (8 * i)) * 256 + get_or b (from + i) 0
byte_more b from i h small =
    let x = get_or b (from + i) 0 in
    let e = read_step (8 * from) (8 * i) (from + i) 0 8 0 b h refl (omega arith) in
    let n : 8 * (i + 1) ≡ 8 * i + 8 = omega arith in
    let m : x / 2 ^ 0 % 2 ^ 8 ≡ x = omega arith in
    ap (λ (k : ℕ). number (bits_at b (8 * from) k)) n ∙ rw m at e

-- and a number of fewer than eight bytes has room for it
pub byte_fits : (v x i : ℕ) → v < 2 ^ (8 * i) → x < 256 → i < 8 → v * 256 + x < 2 ^ 64
byte_fits v x i h small few =
    let k : 8 * i + 8 ≤ 64 = omega arith in
    let e : 2 ^ (8 * i + 8) ≡ 2 ^ (8 * i) * 256 = pow-add 2 (8 * i) 8 in
    let n : v * 256 + x < 2 ^ (8 * i + 8) = rw e (omega arith) in
    lt_of_lt_of_le n (pow_mono k)

pub byte-room : (v i : ℕ) → v < 2 ^ (8 * i) → i < 8 → v * 256 < 2 ^ 64
byte-room v i h few = rw (sym (add-zero (v * 256))) (byte_fits v 0 i h (omega arith) few)

-- the bits of a field among those of its bytes
inside : (l : List ℕ) (k w n : ℕ) → k + w ≤ n → n ≤ length l → take w (drop k (take n l)) ≡ take w (drop k l)
inside l k w n h long =
    let m = length-take-le n l long in
    let e : length (drop k (take n l)) ≡ n - k = length-drop k (take n l) ∙ rw m refl in
    let s : drop k l ≡ drop k (take n l) ++ drop n l = ap (drop k) (sym (take-append-drop n l)) ∙ drop-append-le k (take n l) (drop n l) (omega arith) in
    rw s (sym (take-append-le w (drop k (take n l)) (drop n l) (omega arith)))

-- a field of w bits behind the first k of m bytes, r being left behind it
pub window : (b : List ℕ) (from m k w r : ℕ) → from + m ≤ length b → k + (w + r) ≡ 8 * m
    → number (bits_at b (8 * from + k) w) ≡ number (bits_at b (8 * from) (8 * m)) / 2 ^ r % 2 ^ w
window b from m k w r h e =
    let l = drop (8 * from) (unpacked b) in
    let v = number (bits_at b (8 * from) (8 * m)) in
    let long : length l ≡ 8 * length b - 8 * from = length-drop (8 * from) (unpacked b) ∙ rw (unpacked-length b) refl in
    let s : bits_at b (8 * from + k) w ≡ take w (drop k (take (8 * m) l)) =
    ap (take w) (sym (drop-drop k (8 * from) (unpacked b))) ∙ sym (inside l k w (8 * m) (omega arith) (omega arith)) in
    let t : take (8 * m) l ≡ bits (k + (w + r)) v = sym (bits-at-bits b (8 * from) (8 * m) (omega arith)) ∙ ap (λ (n : ℕ). bits n v) (sym e) in
    ap number (s ∙ ap (λ (x : List ℕ). take w (drop k x)) t ∙ bits-part k w r v) ∙ number-bits-mod w (v / 2 ^ r)

-- two fields, one behind the other
pub two-parts : (b : List ℕ) (at v w : ℕ) → at + v + w ≤ 8 * length b → number (bits_at b at (v + w)) ≡ number (bits_at b at v) * 2 ^ w + number (bits_at b (at + v) w)
two-parts b at v w h =
    let l = drop at (unpacked b) in
    let d : take w (drop v l) ≡ bits_at b (at + v) w = ap (take w) (drop-drop v at (unpacked b)) in
    rw (take-add v w l, d) (number_append (take v l) (bits_at b (at + v) w) ∙ rw (bits-at-length b (at + v) w h) refl)
