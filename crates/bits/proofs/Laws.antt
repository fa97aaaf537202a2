-- Laws of bits: a number and its bits, bits and their number, bytes and their bits.
use mathlib.Core.Path.{◌≡◌, refl, sym, ap, ◌∙◌}
use Prim.Native.Nat.{ℕ, zero, suc, ◌+◌, ◌-◌, ◌*◌, ◌/◌, ◌%◌, ◌^◌, ◌<◌, ◌≤◌}
use mathlib.Core.List.{List, [], ◌∷◌, ◌++◌, append_assoc, append-nil}
use mathlib.Core.Bool.{Bool, true, false}
use native.Mathlib.Omega.{arith}
use borrow.Author.Tests.{ltb-true, ltb-false}
use lib.Dec.{ltb}
use native.Mathlib.Nat.{mod-lt, add-mul, mul_comm, mul_assoc, pow-suc, mod-eq_of_lt, suc-sub-suc, zero-sub, not-suc-le-zero, le_of_suc-le-suc}
use lib.ListN.{length, take, drop, replicate, length-append, length-replicate, length-drop, take-append-drop, drop_of_length-le}
use lib.Pow.{split, pow_pos, shr-shr, mod-pow-add}
use lib.Seq.{take-append-add, take_all, take-nil}
use Rattle.lists.specs.Laid.{laid}
use Rattle.lists.specs.Padded.{padded}
use Rattle.lists.proofs.Every.{every_append, every_front, every-behind}
use Rattle.lists.proofs.Padded.{padded-length, padded-none}
use Rattle.bits.specs.Bits.{bits, number_from, number, unpacked, packed_within, packed, padding, AllBelow}

-- all below: of a list in two parts
pub below-append : (n : ℕ) (l m : List ℕ) → AllBelow n l → AllBelow n m → AllBelow n (l ++ m)
below-append n = every_append (λ (x : ℕ). x < n)

pub below-behind : (n : ℕ) (l m : List ℕ) → AllBelow n (l ++ m) → AllBelow n m
below-behind n = every-behind (λ (x : ℕ). x < n)

pub below-front : (n : ℕ) (l m : List ℕ) → AllBelow n (l ++ m) → AllBelow n l
below-front n = every_front (λ (x : ℕ). x < n)

pub below-take : (n k : ℕ) (l : List ℕ) → AllBelow n l → AllBelow n (take k l)
below-take n k l a = below-front n (take k l) (drop k l) (rw (take-append-drop k l) a)

pub below-drop : (n k : ℕ) (l : List ℕ) → AllBelow n l → AllBelow n (drop k l)
below-drop n k l a = below-behind n (take k l) (drop k l) (rw (take-append-drop k l) a)

-- the bits of a number
pub bits-length : (w n : ℕ) → length (bits w n) ≡ w
unfolding bits
bits-length zero n = refl
bits-length (suc w) n = ap suc (bits-length w n)

pub bits_below : (w n : ℕ) → AllBelow 2 (bits w n)
unfolding bits
bits_below zero n = tt
bits_below (suc w) n = (omega arith, bits_below w n)

pub laid-below : {A : Type 0} (f : A → List ℕ) (n : ℕ) → ((x : A) → AllBelow n (f x)) → (l : List A) → AllBelow n (laid f l)
unfolding laid
laid-below f n h [] = tt
laid-below f n h (x ∷ l) = below-append n (f x) (laid f l) (h x) (laid-below f n h l)

-- the number of a number's bits
pub number-from-bits : (w v n : ℕ) → number_from v (bits w n) ≡ v * 2 ^ w + n % 2 ^ w
unfolding bits number_from
number-from-bits zero v n = omega arith
number-from-bits (suc w) v n =
    let e = number-from-bits w (v * 2 + n / 2 ^ w % 2) n in
    let m : n % 2 ^ suc w ≡ n / 2 ^ w % 2 * 2 ^ w + n % 2 ^ w = ap (λ (x : ℕ). n % 2 ^ x) (omega arith) ∙ mod-pow-add n 1 w in
    let p : 2 ^ suc w ≡ 2 * 2 ^ w = pow-suc 2 w ∙ mul_comm (2 ^ w) 2 in
    let q : v * 2 ^ suc w ≡ v * 2 * 2 ^ w = ap (λ (x : ℕ). v * x) p ∙ sym (mul_assoc v 2 (2 ^ w)) in
    e ∙ rw (m, q, add-mul (v * 2) (n / 2 ^ w % 2) (2 ^ w)) (omega arith)

pub number-bits : (w n : ℕ) → n < 2 ^ w → number (bits w n) ≡ n
number-bits w n h = number-from-bits w 0 n ∙ rw (mod-eq_of_lt h) (omega arith)

-- the bits of the number that bits say
number-over : (l : List ℕ) (v : ℕ) → AllBelow 2 l → number_from v l / 2 ^ length l ≡ v
unfolding number_from
number-over [] v a = omega arith
number-over (b ∷ l) v a =
    let h : b < 2 = a.0 in
    let e = number-over l (v * 2 + b) a.1 in
    let s : number_from (v * 2 + b) l / 2 ^ length l / 2 ^ 1 ≡ number_from (v * 2 + b) l / 2 ^ suc (length l) = shr-shr (number_from (v * 2 + b) l) (length l) 1 ∙ ap (λ (x : ℕ). number_from (v * 2 + b) l / 2 ^ x) (omega arith) in
    sym s ∙ rw e (omega arith)

pub number_lt : (l : List ℕ) → AllBelow 2 l → number l < 2 ^ length l
number_lt l a =
    let e : number l / 2 ^ length l ≡ 0 = number-over l 0 a in
    let s = split (number l) (length l) in
    let m : number l % 2 ^ length l < 2 ^ length l = mod-lt (number l) (pow_pos (length l)) in
    let z : number l / 2 ^ length l * 2 ^ length l ≡ 0 * 2 ^ length l = ap (λ (x : ℕ). x * 2 ^ length l) e in
    omega arith

bits-from : (l : List ℕ) (v : ℕ) → AllBelow 2 l → bits (length l) (number_from v l) ≡ l
unfolding bits number_from
bits-from [] v a = refl
bits-from (b ∷ l) v a =
    let h : b < 2 = a.0 in
    let e = number-over l (v * 2 + b) a.1 in
    rw (e, bits-from l (v * 2 + b) a.1) (ap (λ (x : ℕ). x ∷ l) (omega arith))

pub bits-number : (l : List ℕ) → AllBelow 2 l → bits (length l) (number l) ≡ l
bits-number l a = bits-from l 0 a

-- a padded list is its front, and padding where it is shorter
pub padded-split : {A : Type 0} (z : A) (n : ℕ) (l : List A) → padded z n l ≡ take n l ++ replicate (n - length l) z
unfolding padded
padded-split z zero l = rw (zero-sub (length l)) refl
padded-split z (suc n) [] = let e : suc n ≡ suc n - 0 = omega arith in padded-none z (suc n) ∙ ap (λ (k : ℕ). replicate k z) e
padded-split {A = A} z (suc n) (x ∷ l) = ap (λ (t : List A). x ∷ t) (padded-split z n l ∙ rw (suc-sub-suc n (length l)) refl)

below-zeros : (n k : ℕ) → 0 < n → AllBelow n (replicate k 0)
below-zeros n zero h = tt
below-zeros n (suc k) h = (h, below-zeros n k h)

below-padded : (n k : ℕ) (l : List ℕ) → 0 < n → AllBelow n l → AllBelow n (padded 0 k l)
below-padded n k l h a = rw (padded-split 0 k l) (below-append n (take k l) (replicate (k - length l) 0) (below-take n k l a) (below-zeros n (k - length l) h))

-- eight bits as a byte, and back
pub byte-bits : (l : List ℕ) → AllBelow 2 l → bits 8 (number (padded 0 8 l)) ≡ padded 0 8 l
byte-bits l a =
    let e = bits-number (padded 0 8 l) (below-padded 2 8 l (omega arith) a) in
    rw (padded-length 0 8 l) at e

byte-lt : (l : List ℕ) → AllBelow 2 l → number (padded 0 8 l) < 256
byte-lt l a =
    let e = number_lt (padded 0 8 l) (below-padded 2 8 l (omega arith) a) in
    rw (padded-length 0 8 l) at e

pub packed-below : (k : ℕ) (l : List ℕ) → AllBelow 2 l → AllBelow 256 (packed_within k l)
unfolding packed_within
packed-below zero l a = tt
packed-below (suc k) [] a = tt
packed-below (suc k) (b ∷ l) a = (byte-lt (b ∷ l) a, packed-below k (drop 8 (b ∷ l)) (below-drop 2 8 (b ∷ l) a))

-- the bits of bytes
pub unpacked-length : (b : List ℕ) → length (unpacked b) ≡ 8 * length b
unfolding laid
unpacked-length [] = refl
unpacked-length (x ∷ b) = length-append (bits 8 x) (unpacked b) ∙ rw (bits-length 8 x, unpacked-length b) (omega arith)

pub unpacked-below : (b : List ℕ) → AllBelow 2 (unpacked b)
unpacked-below b = laid-below (bits 8) 2 (bits_below 8) b

-- written and read: the bits, and zeros to the next byte
pub unpacked-packed : (k : ℕ) (l : List ℕ) → AllBelow 2 l → length l ≤ k → unpacked (packed_within k l) ≡ l ++ replicate (padding (length l)) 0
unfolding laid packed_within
unpacked-packed zero [] a h = refl
unpacked-packed zero (b ∷ l) a h = absurd (not-suc-le-zero h)
unpacked-packed (suc k) [] a h = refl
unpacked-packed (suc k) (b ∷ l) a h =
    let m : List ℕ = b ∷ l in
    let n : ℕ = length m in
    let e = unpacked-packed k (drop 8 m) (below-drop 2 8 m a) (rw (length-drop 8 m) (omega arith)) in
    rw (byte-bits m a, e, padded-split 0 8 m, length-drop 8 m) (joined m (omega arith) (ltb (length m) 8) refl)
  where
    joined : (m : List ℕ) → 0 < length m → (t : Bool) → ltb (length m) 8 ≡ t → (take 8 m ++ replicate (8 - length m) 0) ++ (drop 8 m ++ replicate (padding (length m - 8)) 0) ≡ m ++ replicate (padding (length m)) 0
    joined m some true e =
        let h : length m < 8 = ltb-true _ _ e in
        let z : length m - 8 ≡ 0 = omega arith in
        let y : padding (length m) ≡ 8 - length m = omega arith in
        rw (take_all 8 m (omega arith), drop_of_length-le m {i = 8} (omega arith), z, y) (append-nil (m ++ replicate (8 - length m) 0))
    joined m some false e =
        let h : 8 ≤ length m = ltb-false _ _ e in
        let z : 8 - length m ≡ 0 = omega arith in
        let y : padding (length m - 8) ≡ padding (length m) = omega arith in
        rw (z, y, append-nil (take 8 m)) (sym (append_assoc (take 8 m) (drop 8 m) (replicate (padding (length m)) 0)) ∙ rw (take-append-drop 8 m) refl)

-- bytes are what their bits are packed to
pub packed-unpacked : (k : ℕ) (b : List ℕ) → AllBelow 256 b → length b ≤ k → packed_within k (unpacked b) ≡ b
unfolding laid packed_within padded bits
packed-unpacked zero [] a h = refl
packed-unpacked zero (x ∷ b) a h = absurd (not-suc-le-zero h)
packed-unpacked (suc k) [] a h = refl
packed-unpacked (suc k) (x ∷ b) a h = rw (packed-unpacked k b a.1 (le_of_suc-le-suc h)) (ap (λ (y : ℕ). y ∷ b) (number-bits 8 x a.0))

-- the first bytes' bits are the first bits
pub unpacked-take : (k : ℕ) (b : List ℕ) → unpacked (take k b) ≡ take (8 * k) (unpacked b)
unfolding laid
unpacked-take zero b = refl
unpacked-take (suc k) [] = sym (take-nil (8 * suc k))
unpacked-take (suc k) (x ∷ b) =
    let e : 8 * suc k ≡ length (bits 8 x) + 8 * k = omega (arith, bits-length 8 x) in
    rw e (rw (take-append-add (bits 8 x) (unpacked b) (8 * k)) (ap (λ (t : List ℕ). bits 8 x ++ t) (unpacked-take k b)))

-- an image is as long as its bits ask
pub packed-length : (l : List ℕ) → AllBelow 2 l → 8 * length (packed l) ≡ length l + padding (length l)
packed-length l a =
    let e = unpacked-packed (length l) l a (omega arith) in
    sym (unpacked-length (packed l)) ∙ ap length e ∙ length-append l (replicate (padding (length l)) 0) ∙ rw (length-replicate {A = ℕ} (padding (length l)) 0) refl

-- bytes with the same bits are the same bytes
pub unpacked-same : (b c : List ℕ) → AllBelow 256 b → AllBelow 256 c → unpacked b ≡ unpacked c → b ≡ c
unpacked-same b c p q e =
    let k = length b + length c in
    sym (packed-unpacked k b p (omega arith)) ∙ ap (packed_within k) e ∙ packed-unpacked k c q (omega arith)
