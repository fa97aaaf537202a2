-- Bits put over those of a buffer: byte by byte, and one piece after the other.
use mathlib.Core.Path.{◌≡◌, refl, sym, ap, ◌∙◌}
use Prim.Native.Nat.{ℕ, ◌+◌, ◌*◌, ◌/◌, ◌%◌, ◌^◌, ◌<◌, ◌≤◌}
use mathlib.Core.List.{List, [], ◌∷◌, ◌++◌, append_assoc, append-nil}
use mathlib.Core.Bool.{Bool, true, false}
use native.Mathlib.Omega.{arith}
use native.Mathlib.Nat.{mod-eq_of_lt, add-zero, zero-add, not-suc-le-zero}
use native.Mathlib.Numerals.{add-one}
use borrow.Author.Tests.{ltb-true, ltb-false}
use lib.Dec.{ltb}
use lib.ListN.{length, get_or, take, drop, set, length-append, length-drop, take-append-drop}
use lib.Pow.{pow_pos}
use lib.Seq.{sets, sets-eq, length-sets, set-set, set_out, get_or-set_same, length-take-le}
use Rattle.lists.specs.Laid.{laid}
use Rattle.lists.specs.Padded.{padded}
use Rattle.lists.proofs.Padded.{padded-front}
use Rattle.lists.proofs.Laid.{laid-step}
use Rattle.lists.proofs.Sets.{sets-append, sets-past}
use Rattle.bits.specs.Bits.{bits, number, packed_within, packed, AllBelow, bits_before, bits_over}
use Rattle.bits.proofs.Laws.{bits-length, bits_below, byte-bits, laid-below, below-append, below-take, below-drop, packed-length}
use Rattle.bits.proofs.Bytes.{bits-split, packed-front, packed_byte, packed-last, behind-lt, behind-bits, packed-few}

-- a byte is full: what is left to write goes on behind it
pub byte-written : (out : List ℕ) (i c n w k h v y : ℕ) → c + n ≡ 8 → w ≡ n + k → h < 2 ^ c → y ≡ h * 2 ^ n + v / 2 ^ k % 2 ^ n
    → sets out i (packed (bits c h ++ bits w v)) ≡ sets (set out i y) (i + 1) (packed (bits 0 0 ++ bits k v))
unfolding bits
byte-written out i c n w k h v y e more lt is =
    let full : bits c h ++ bits w v ≡ bits 8 y ++ bits k v =
    ap (λ (l : List ℕ). bits c h ++ l) (ap (λ (j : ℕ). bits j v) more ∙ bits-split n k v) ∙ sym (append_assoc (bits c h) (bits n (v / 2 ^ k)) (bits k v)) ∙
    ap (λ (l : List ℕ). l ++ bits k v) (sym (behind-bits c n h (v / 2 ^ k)) ∙ ap (λ (w : ℕ). bits w (h * 2 ^ n + v / 2 ^ k % 2 ^ n)) e ∙ ap (bits 8) (sym is)) in
    let small : y < 256 = let s = behind-lt c n h (v / 2 ^ k) lt in rw (e, ← is) at s in
    rw (full, packed_byte y (bits k v) small (bits_below k v), add-one i) refl

-- the last byte is not: zero bits to the next
pub last_written : (out : List ℕ) (i c k r h v y z : ℕ) → c + k + r ≡ 8 → 0 < c + k → 0 < r → h < 2 ^ c → y ≡ h * 2 ^ k + v % 2 ^ k → z ≡ y * 2 ^ r + 0 % 2 ^ r
    → sets out i (packed (bits c h ++ bits k v)) ≡ set out i z
last_written out i c k r h v y z e some left lt is_y is-z =
    let l = bits c h ++ bits k v in
    let as_bits : l ≡ bits (c + k) y = sym (behind-bits c k h v) ∙ ap (bits (c + k)) (sym is_y) in
    let small : y < 2 ^ (c + k) = rw is_y (behind-lt c k h v lt) in
    let none : 0 % 2 ^ r ≡ 0 = mod-eq_of_lt (pow_pos r) in
    let same : y * 2 ^ r ≡ z = sym (is-z ∙ rw none (add-zero (y * 2 ^ r))) in
    let one : packed l ≡ y * 2 ^ r ∷ [] = ap packed as_bits ∙ packed-last (c + k) r y e some left small in
    rw (one, same) refl

-- nothing is left
pub none_written : (out : List ℕ) (i h v : ℕ) → sets out i (packed (bits 0 h ++ bits 0 v)) ≡ out
unfolding bits packed_within
none_written out i h v = refl

-- what is written over the first of it
sets_over : (s : List ℕ) (j y : ℕ) (w : List ℕ) → 0 < length w → sets (set s j y) j w ≡ sets s j w
sets_over s j y [] h = absurd (not-suc-le-zero h)
sets_over s j y (z ∷ w) h = rw (set-set s j y z) refl

-- bits t that fill no byte, and then others behind them
last-again : (s : List ℕ) (j : ℕ) (t m : List ℕ) → AllBelow 2 t → length t < 8
    → sets (sets s j (packed t)) j (packed (take (length t) (bits 8 (get_or (sets s j (packed t)) j 0)) ++ m)) ≡ sets s j (packed (t ++ m))
unfolding packed_within
last-again s j [] m a few = refl
last-again s j (b ∷ t) m a few = rw (packed-few b t few) (go (ltb j (length s)) refl)
  where
    go : (v : Bool) → ltb j (length s) ≡ v → sets (set s j (number (padded 0 8 (b ∷ t)))) j (packed (take (length (b ∷ t)) (bits 8 (get_or (set s j (number (padded 0 8 (b ∷ t)))) j 0)) ++ m)) ≡ sets s j (packed ((b ∷ t) ++ m))
    go true e =
        let h : j < length s = ltb-true _ _ e in
        let there : get_or (set s j (number (padded 0 8 (b ∷ t)))) j 0 ≡ number (padded 0 8 (b ∷ t)) = get_or-set_same s j (number (padded 0 8 (b ∷ t))) 0 h in
        let back : take (length (b ∷ t)) (bits 8 (number (padded 0 8 (b ∷ t)))) ≡ b ∷ t = ap (take (length (b ∷ t))) (byte-bits (b ∷ t) a) ∙ padded-front 0 8 (b ∷ t) (omega arith) in
        rw (there, back) (sets_over s j (number (padded 0 8 (b ∷ t))) (packed ((b ∷ t) ++ m)) (omega arith))
    go false e =
        let h : length s ≤ j = ltb-false _ _ e in
        rw (set_out s j (number (padded 0 8 (b ∷ t))) h) (sets-past (packed (take (length (b ∷ t)) (bits 8 (get_or s j 0)) ++ m)) s j h ∙ sym (sets-past (packed ((b ∷ t) ++ m)) s j h))

-- bits l from byte i on, and then others right behind them
behind-again : (buffer : List ℕ) (i : ℕ) (l m : List ℕ) → AllBelow 2 l → AllBelow 2 m
    → sets (sets buffer i (packed l)) (i + length l / 8) (packed (take (length l % 8) (bits 8 (get_or (sets buffer i (packed l)) (i + length l / 8) 0)) ++ m))
    ≡ sets buffer i (packed (l ++ m))
behind-again buffer i l m a b =
    let q = length l / 8 in
    let p : List ℕ = take (8 * q) l in
    let t : List ℕ = drop (8 * q) l in
    let whole : length p ≡ 8 * q = length-take-le (8 * q) l (omega arith) in
    let few : length t ≡ length l % 8 = length-drop (8 * q) l ∙ omega arith in
    let pb : AllBelow 2 p = below-take 2 (8 * q) l a in
    let tb : AllBelow 2 t = below-drop 2 (8 * q) l a in
    let bytes : length (packed p) ≡ q = omega (arith, packed-length p pb) in
    let one : packed l ≡ packed p ++ packed t = ap packed (sym (take-append-drop (8 * q) l)) ∙ packed-front q p t pb tb whole in
    let two : packed (l ++ m) ≡ packed p ++ packed (t ++ m) =
    ap (λ (x : List ℕ). packed (x ++ m)) (sym (take-append-drop (8 * q) l)) ∙ ap packed (append_assoc p t m) ∙ packed-front q p (t ++ m) pb (below-append 2 t m tb b) whole in
    let s : List ℕ = sets buffer i (packed p) in
    let first : sets buffer i (packed l) ≡ sets s (i + q) (packed t) =
    ap (sets buffer i) one ∙ sets-append (packed p) (packed t) buffer i ∙ ap (λ (n : ℕ). sets s (i + n) (packed t)) bytes in
    let both : sets buffer i (packed (l ++ m)) ≡ sets s (i + q) (packed (t ++ m)) =
    ap (sets buffer i) two ∙ sets-append (packed p) (packed (t ++ m)) buffer i ∙ ap (λ (n : ℕ). sets s (i + n) (packed (t ++ m))) bytes in
    rw (first, both, ← few) (last-again s (i + q) t m tb (omega arith))

-- some bits
pub over-some : (buffer : List ℕ) (at : ℕ) (l : List ℕ) → 0 < length l → sets buffer (at / 8) (packed (bits_before buffer at ++ l)) ≡ bits_over buffer at l
over-some buffer at [] h = absurd (not-suc-le-zero h)
over-some buffer at (b ∷ l) h = refl

-- the buffer stays as long
pub over-length : (buffer : List ℕ) (at : ℕ) (l : List ℕ) → length (bits_over buffer at l) ≡ length buffer
over-length buffer at [] = refl
over-length buffer at (b ∷ l) = length-sets buffer (at / 8) (packed (bits_before buffer at ++ (b ∷ l)))

-- one piece, and then another right behind it
pub over-then : (buffer : List ℕ) (at next : ℕ) (l m : List ℕ) → AllBelow 2 l → AllBelow 2 m → next ≡ at + length l
    → bits_over (bits_over buffer at l) next m ≡ bits_over buffer at (l ++ m)
over-then buffer at next [] m a b e = let z : next ≡ at = omega (arith, e) in rw z refl
over-then buffer at next (x ∷ l) [] a b e = rw (append-nil (x ∷ l)) refl
over-then buffer at next (x ∷ l) (y ∷ m) a b e =
    let i = at / 8 in
    let k = at % 8 in
    let f : List ℕ = bits_before buffer at in
    let fore : length f ≡ k = length-take-le k (bits 8 (get_or buffer i 0)) (omega (arith, bits-length 8 (get_or buffer i 0))) in
    let fb : AllBelow 2 f = below-take 2 k (bits 8 (get_or buffer i 0)) (bits_below 8 (get_or buffer i 0)) in
    let long = length-append f (x ∷ l) in
    let i2 : next / 8 ≡ i + length (f ++ (x ∷ l)) / 8 = omega (arith, e) in
    let k2 : next % 8 ≡ length (f ++ (x ∷ l)) % 8 = omega (arith, e) in
    let split = behind-again buffer i (f ++ (x ∷ l)) (y ∷ m) (below-append 2 f (x ∷ l) fb a) b in
    rw (i2, k2) split ∙ ap (λ (w : List ℕ). sets buffer i (packed w)) (append_assoc f (x ∷ l) (y ∷ m))

-- the same of a list's elements, one element more
pub over-more : {A : Type 0} (f : A → List ℕ) → ((x : A) → AllBelow 2 (f x)) → (given before after : List ℕ) (at next : ℕ) (l : List A) (i : ℕ) (z : A) → i < length l
    → before ≡ bits_over given at (laid f (take i l)) → next ≡ at + length (laid f (take i l)) → after ≡ bits_over before next (f (get_or l i z))
    → after ≡ bits_over given at (laid f (take (i + 1) l))
over-more f below given before after at next l i z h done place more =
    more ∙ ap (λ (b : List ℕ). bits_over b next (f (get_or l i z))) done ∙
    over-then given at next (laid f (take i l)) (f (get_or l i z)) (laid-below f 2 below (take i l)) (below (get_or l i z)) place ∙ ap (bits_over given at) (sym (laid-step f l i z h))

-- from the first bit on, as long as there is room: whole bytes, and what stands behind them
pub over-all : (buffer l : List ℕ) → 0 < length l → length (packed l) ≤ length buffer → bits_over buffer 0 l ≡ packed l ++ drop (length (packed l)) buffer
over-all buffer l some room = sym (over-some buffer 0 l some) ∙ sets-eq (packed l) buffer 0 (omega arith) ∙ ap (λ (n : ℕ). packed l ++ drop n buffer) (zero-add (length (packed l)))
