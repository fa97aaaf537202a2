-- What bytes are made of: bits that fill one, bits that do not, and bits behind others.
use mathlib.Core.Path.{◌≡◌, refl, sym, ap, ◌∙◌}
use Prim.Native.Nat.{ℕ, zero, suc, ◌+◌, ◌-◌, ◌*◌, ◌/◌, ◌%◌, ◌^◌, ◌<◌, ◌≤◌}
use mathlib.Core.List.{List, [], ◌∷◌, ◌++◌, append_assoc, append-nil}
use native.Mathlib.Omega.{arith}
use native.Mathlib.Nat.{mod-lt, div-eq_of_lt, lt_of_lt_of_le, one-mul, add-zero}
use lib.ListN.{length, take, replicate, length-append, drop_of_length-le}
use lib.Arith.{digits_lt}
use lib.Pow.{split, pow_pos, pow-add, pow_mono, shl_exact, shl_lt, shr_lt, shr_le}
use Rattle.lists.specs.Laid.{laid}
use Rattle.lists.specs.Padded.{padded}
use Rattle.bits.specs.Bits.{bits, number, unpacked, packed_within, packed, padding, AllBelow}
use Rattle.bits.proofs.Laws.{bits-length, bits_below, below-append, unpacked-packed, packed-unpacked, unpacked-same, unpacked-length, packed-below}
use Rattle.bits.proofs.Steps.{bits-append, bits_above, bits-take, unpacked-append}

-- a number's last bits, and those in front of them
pub bits-low : (w n : ℕ) → bits w (n % 2 ^ w) ≡ bits w n
bits-low w n = sym (bits_above w (n / 2 ^ w) (n % 2 ^ w)) ∙ ap (bits w) (split n w)

pub bits-split : (i j n : ℕ) → bits (i + j) n ≡ bits i (n / 2 ^ j) ++ bits j n
bits-split i j n =
    ap (bits (i + j)) (sym (split n j)) ∙ bits-append i j (n / 2 ^ j) (n % 2 ^ j) (mod-lt n (pow_pos j)) ∙ ap (λ (l : List ℕ). bits i (n / 2 ^ j) ++ l) (bits-low j n)

-- whole bytes in front
pub packed-front : (q : ℕ) (l m : List ℕ) → AllBelow 2 l → AllBelow 2 m → length l ≡ 8 * q → packed (l ++ m) ≡ packed l ++ packed m
packed-front q l m a b e =
    let both = below-append 2 l m a b in
    let n = length-append l m in
    let u = unpacked-packed (length (l ++ m)) (l ++ m) both (omega arith) in
    let v = unpacked-packed (length l) l a (omega arith) in
    let w = unpacked-packed (length m) m b (omega arith) in
    let z : padding (length l) ≡ 0 = omega arith in
    let y : padding (length (l ++ m)) ≡ padding (length m) = omega arith in
    let zeros : List ℕ = replicate (padding (length m)) 0 in
    let one : unpacked (packed (l ++ m)) ≡ l ++ (m ++ zeros) = u ∙ ap (λ (k : ℕ). (l ++ m) ++ replicate k 0) y ∙ append_assoc l m zeros in
    let two : unpacked (packed l ++ packed m) ≡ l ++ (m ++ zeros) = rw (unpacked-append (packed l) (packed m), v, w, z, append-nil l) refl in
    unpacked-same (packed (l ++ m)) (packed l ++ packed m) (packed-below _ (l ++ m) both) (below-append 256 (packed l) (packed m) (packed-below _ l a) (packed-below _ m b)) (one ∙ sym two)

-- bits that fill a byte, and others
pub packed_byte : (y : ℕ) (m : List ℕ) → y < 256 → AllBelow 2 m → packed (bits 8 y ++ m) ≡ y ∷ packed m
unfolding laid
packed_byte y m h b =
    let one : packed (bits 8 y) ≡ y ∷ [] =
    ap packed (sym (append-nil (bits 8 y))) ∙ packed-unpacked (length (unpacked (y ∷ []))) (y ∷ []) (h, tt) (omega (arith, unpacked-length (y ∷ []))) in
    packed-front 1 (bits 8 y) m (bits_below 8 y) b (bits-length 8 y) ∙ rw one refl

-- bits that do not: zero bits to the next byte
bits-zero : (w : ℕ) → bits w 0 ≡ replicate w 0
unfolding bits
bits-zero zero = refl
bits-zero (suc w) = rw (bits-zero w) (ap (λ (x : ℕ). x ∷ replicate w 0) (omega (arith, shr_le 0 w)))

pub packed-last : (c r h : ℕ) → c + r ≡ 8 → 0 < c → 0 < r → h < 2 ^ c → packed (bits c h) ≡ h * 2 ^ r ∷ []
unfolding laid
packed-last c r h e some left lt =
    let long = bits-length c h in
    let pad : padding (length (bits c h)) ≡ r = omega arith in
    let byte : bits 8 (h * 2 ^ r) ≡ bits c h ++ replicate r 0 =
    ap (λ (w : ℕ). bits w (h * 2 ^ r)) (sym e) ∙ ap (bits (c + r)) (sym (add-zero (h * 2 ^ r))) ∙ bits-append c r h 0 (pow_pos r) ∙ ap (λ (t : List ℕ). bits c h ++ t) (bits-zero r) in
    let small : h * 2 ^ r < 256 = let g : h * 2 ^ r < 2 ^ (c + r) = shl_lt c r lt in rw e at g in
    unpacked-same (packed (bits c h)) (h * 2 ^ r ∷ []) (packed-below _ (bits c h) (bits_below c h)) (small, tt)
    (unpacked-packed (length (bits c h)) (bits c h) (bits_below c h) (omega arith) ∙ rw pad (sym byte) ∙ sym (append-nil (bits 8 (h * 2 ^ r))))

-- c bits h, and n of a number's bits behind them: a number of c + n bits
pub behind-lt : (c n h v : ℕ) → h < 2 ^ c → h * 2 ^ n + v % 2 ^ n < 2 ^ (c + n)
behind-lt c n h v lt = rw (pow-add 2 c n) (digits_lt lt (mod-lt v (pow_pos n)))

pub behind-bits : (c n h v : ℕ) → bits (c + n) (h * 2 ^ n + v % 2 ^ n) ≡ bits c h ++ bits n v
behind-bits c n h v = bits-append c n h (v % 2 ^ n) (mod-lt v (pow_pos n)) ∙ ap (λ (l : List ℕ). bits c h ++ l) (bits-low n v)

-- few bits are a byte
pub few-lt : (c h : ℕ) → c ≤ 8 → h < 2 ^ c → h < 256
few-lt c h few lt = lt_of_lt_of_le lt (pow_mono few)

pub behind-byte : (c n h v y : ℕ) → c + n ≤ 8 → h < 2 ^ c → y ≡ h * 2 ^ n + v % 2 ^ n → (y < 2 ^ (c + n)) × (y < 256)
behind-byte c n h v y few lt is = let s = behind-lt c n h v lt in let t = rw (← is) at s in (t, few-lt (c + n) y few t)

pub behind-few : (h n v : ℕ) → h < 256 → n < 9 → h * 2 ^ n + v % 2 ^ n < 65536
behind-few h n v lt few =
    let s : h * 2 ^ n + v % 2 ^ n < 2 ^ (8 + n) = behind-lt 8 n h v lt in
    let t : 2 ^ (8 + n) ≤ 65536 = let k : 8 + n ≤ 16 = omega arith in pow_mono k in
    omega arith

-- 1 with n zero bits behind it
pub one_shifted : (n : ℕ) → n < 9 → 1 * 2 ^ n % 2 ^ 64 ≡ 2 ^ n
one_shifted n h =
    let one : 1 < 2 ^ 1 = let k : 1 < 2 = omega arith in k in
    shl_exact 1 n 64 one (omega arith) ∙ one-mul (2 ^ n)

-- a word without as many bits as a word has
pub none_above : (v n : ℕ) → v < 2 ^ 64 → 64 ≤ n → 0 ≡ v / 2 ^ n
none_above v n h few = sym (div-eq_of_lt (lt_of_lt_of_le h (pow_mono few)))

-- the bits in front of a byte's last n
pub above-lt : (k x : ℕ) → k ≤ 8 → x < 256 → x / 2 ^ (8 - k) < 2 ^ k
above-lt k x h lt = let e : k + (8 - k) ≡ 8 = omega arith in shr_lt k (8 - k) (rw e lt)

-- the bits that stand in front in a byte
pub front-bits : (k x : ℕ) → k ≤ 8 → bits k (x / 2 ^ (8 - k)) ≡ take k (bits 8 x)
front-bits k x h = let e : k + (8 - k) ≡ 8 = omega arith in sym (ap (λ (w : ℕ). take k (bits w x)) (sym e) ∙ bits-take k (8 - k) x)

-- few bits are one byte
pub packed-few : (b : ℕ) (l : List ℕ) → length (b ∷ l) < 8 → packed (b ∷ l) ≡ number (padded 0 8 (b ∷ l)) ∷ []
unfolding packed_within
packed-few b l few = rw (drop_of_length-le (b ∷ l) {i = 8} (omega arith)) (none (length l))
  where
    none : (k : ℕ) → number (padded 0 8 (b ∷ l)) ∷ packed_within k [] ≡ number (padded 0 8 (b ∷ l)) ∷ []
    none zero = refl
    none (suc k) = refl
