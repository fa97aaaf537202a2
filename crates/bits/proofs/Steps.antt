-- A field's parts, one byte after the other: what a reader goes by, and what a writer puts together.
use mathlib.Core.Path.{◌≡◌, refl, sym, ap, ◌∙◌}
use Prim.Native.Nat.{ℕ, zero, suc, ◌+◌, ◌*◌, ◌/◌, ◌%◌, ◌^◌, ◌<◌, ◌≤◌}
use mathlib.Core.List.{List, [], ◌∷◌, ◌++◌}
use native.Mathlib.Omega.{arith}
use native.Mathlib.Nat.{mod-lt, add-mul, mul_comm, mul_assoc, pow-suc, zero-add, add_comm, not-suc-le-zero, le_of_suc-le-suc}
use lib.ListN.{length, get_or, take, drop}
use lib.Pow.{high, split, pow_pos, shr-shr}
use lib.Seq.{take-append-le, drop-append-add, drop-append-le, take-add, drop-drop}
use Rattle.lists.specs.Laid.{laid}
use Rattle.lists.proofs.Laid.{laid-append}
use Rattle.bits.specs.Bits.{bits, number_from, number, unpacked}
use Rattle.bits.proofs.Laws.{bits-length, number-from-bits}

-- the number of bits behind others
pub number-from : (l : List ℕ) (v : ℕ) → number_from v l ≡ v * 2 ^ length l + number l
unfolding number_from
number-from [] v = omega arith
number-from (b ∷ l) v =
    let n = 2 ^ length l in
    let e = number-from l (v * 2 + b) in
    let f = number-from l (0 * 2 + b) in
    let p : v * 2 ^ suc (length l) ≡ v * 2 * n = ap (λ (x : ℕ). v * x) (pow-suc 2 (length l) ∙ mul_comm n 2) ∙ sym (mul_assoc v 2 n) in
    let z : 0 * 2 + b ≡ b = omega arith in
    let g : (0 * 2 + b) * n ≡ b * n = ap (λ (x : ℕ). x * n) z in
    e ∙ omega (arith, f, p, g, add-mul (v * 2) b n)

pub number_append : (l m : List ℕ) → number (l ++ m) ≡ number l * 2 ^ length m + number m
unfolding number_from
number_append l m = go l 0
  where
    go : (l : List ℕ) (v : ℕ) → number_from v (l ++ m) ≡ number_from v l * 2 ^ length m + number m
    go [] v = number-from m v
    go (b ∷ l) v = go l (v * 2 + b)

-- so many bits of any number
pub number-bits-mod : (w n : ℕ) → number (bits w n) ≡ n % 2 ^ w
number-bits-mod w n = number-from-bits w 0 n ∙ omega arith

-- two numbers one behind the other
div-above : (a w b : ℕ) → (a * 2 ^ w + b) / 2 ^ w ≡ a + b / 2 ^ w
div-above a w b =
    let e : a * 2 ^ w + b ≡ (a + b / 2 ^ w) * 2 ^ w + b % 2 ^ w = omega (arith, split b w, add-mul a (b / 2 ^ w) (2 ^ w)) in
    ap (λ (x : ℕ). x / 2 ^ w) e ∙ high (a + b / 2 ^ w) w (mod-lt b (pow_pos w))

pub bits_above : (w a b : ℕ) → bits w (a * 2 ^ w + b) ≡ bits w b
unfolding bits
bits_above zero a b = refl
bits_above (suc w) a b =
    let d : a * 2 ^ suc w + b ≡ (a * 2) * 2 ^ w + b = ap (λ (x : ℕ). x + b) (ap (λ (x : ℕ). a * x) (pow-suc 2 w ∙ mul_comm (2 ^ w) 2) ∙ sym (mul_assoc a 2 (2 ^ w))) in
    let q : (a * 2 ^ suc w + b) / 2 ^ w % 2 ≡ b / 2 ^ w % 2 = ap (λ (x : ℕ). x / 2 ^ w % 2) d ∙ ap (λ (x : ℕ). x % 2) (div-above (a * 2) w b) ∙ omega arith in
    rw (q, ap (bits w) d ∙ bits_above w (a * 2) b)

pub bits-append : (i j a b : ℕ) → b < 2 ^ j → bits (i + j) (a * 2 ^ j + b) ≡ bits i a ++ bits j b
unfolding bits
bits-append zero j a b h = rw (zero-add j) (bits_above j a b)
bits-append (suc i) j a b h =
    let n : ℕ = a * 2 ^ j + b in
    let e : suc i + j ≡ suc (i + j) = omega arith in
    let q : n / 2 ^ (i + j) ≡ a / 2 ^ i = ap (λ (x : ℕ). n / 2 ^ x) (add_comm i j) ∙ sym (shr-shr n j i) ∙ ap (λ (x : ℕ). x / 2 ^ i) (high a j h) in
    rw e (rw q (ap (λ (l : List ℕ). a / 2 ^ i % 2 ∷ l) (bits-append i j a b h)))

-- the bits behind the first k, and the first n
pub bits-drop : (k r a : ℕ) → drop k (bits (k + r) a) ≡ bits r a
unfolding bits
bits-drop zero r a = rw (zero-add r) refl
bits-drop (suc k) r a = let e : suc k + r ≡ suc (k + r) = omega arith in rw e (bits-drop k r a)

pub bits-take : (n r a : ℕ) → take n (bits (n + r) a) ≡ bits n (a / 2 ^ r)
unfolding bits
bits-take zero r a = refl
bits-take (suc n) r a =
    let e : suc n + r ≡ suc (n + r) = omega arith in
    let q : a / 2 ^ (n + r) ≡ a / 2 ^ r / 2 ^ n = ap (λ (x : ℕ). a / 2 ^ x) (add_comm n r) ∙ sym (shr-shr a r n) in
    rw e (rw (q, bits-take n r a) refl)

-- n bits of a number behind the first k, r being left behind
pub bits-part : (k n r a : ℕ) → take n (drop k (bits (k + (n + r)) a)) ≡ bits n (a / 2 ^ r)
bits-part k n r a = rw (bits-drop k (n + r) a) (bits-take n r a)

-- the bits from place k of byte i on
pub unpacked-at : (i k : ℕ) (b : List ℕ) → i < length b → drop (8 * i + k) (unpacked b) ≡ drop k (bits 8 (get_or b i 0) ++ unpacked (drop (suc i) b))
unfolding laid
unpacked-at i k [] h = absurd (not-suc-le-zero h)
unpacked-at zero k (x ∷ b) h = let e : 8 * 0 + k ≡ k = omega arith in rw e refl
unpacked-at (suc i) k (x ∷ b) h =
    let e : 8 * suc i + k ≡ length (bits 8 x) + (8 * i + k) = omega (arith, bits-length 8 x) in
    rw e (drop-append-add (bits 8 x) (unpacked b) (8 * i + k) ∙ unpacked-at i k b (le_of_suc-le-suc h))

-- n bits of byte i behind its first k, r being left behind
pub byte-part : (i k n r : ℕ) (b : List ℕ) → i < length b → k + (n + r) ≡ 8 → take n (drop (8 * i + k) (unpacked b)) ≡ bits n (get_or b i 0 / 2 ^ r)
byte-part i k n r b h e =
    let x = get_or b i 0 in
    let l = bits-length 8 x in
    let a : k ≤ length (bits 8 x) = omega arith in
    let d : drop k (bits 8 x ++ unpacked (drop (suc i) b)) ≡ bits (n + r) x ++ unpacked (drop (suc i) b) =
    drop-append-le k (bits 8 x) (unpacked (drop (suc i) b)) a ∙ ap (λ (t : List ℕ). t ++ unpacked (drop (suc i) b)) (ap (λ (w : ℕ). drop k (bits w x)) (sym e) ∙ bits-drop k (n + r) x) in
    let f : n ≤ length (bits (n + r) x) = omega (arith, bits-length (n + r) x) in
    rw (unpacked-at i k b h, d, take-append-le n (bits (n + r) x) (unpacked (drop (suc i) b)) f) (bits-take n r x)

-- a step of reading: `done` bits from `at` on are read, and n more stand in byte i behind its first k
pub read_step : (at done i k n r : ℕ) (b : List ℕ) → i < length b → k + (n + r) ≡ 8 → at + done ≡ 8 * i + k
    → number (take (done + n) (drop at (unpacked b))) ≡ number (take done (drop at (unpacked b))) * 2 ^ n + get_or b i 0 / 2 ^ r % 2 ^ n
read_step at done i k n r b h e p =
    let l = unpacked b in
    let x = get_or b i 0 in
    let q : take n (drop done (drop at l)) ≡ bits n (x / 2 ^ r) = ap (take n) (drop-drop done at l) ∙ ap (λ (y : ℕ). take n (drop y l)) p ∙ byte-part i k n r b h e in
    rw (take-add done n (drop at l), q) (number_append (take done (drop at l)) (bits n (x / 2 ^ r)) ∙ rw (bits-length n (x / 2 ^ r), number-bits-mod n (x / 2 ^ r)) refl)

-- bytes one behind the other
pub unpacked-append : (b c : List ℕ) → unpacked (b ++ c) ≡ unpacked b ++ unpacked c
unpacked-append = laid-append (bits 8)
