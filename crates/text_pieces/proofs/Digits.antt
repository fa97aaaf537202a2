-- `decimal` gives the number's digits.
use mathlib.Core.Path.{◌≡◌, refl, sym, ap, ◌∙◌}
use mathlib.Core.Logic.{⊎_elim}
use mathlib.Core.List.{List, [], ◌∷◌, ◌++◌}
use Prim.Native.Nat.{ℕ, zero, suc, ◌+◌, ◌-◌, ◌*◌, ◌/◌, ◌%◌, ◌≤◌, ◌<◌, min}
use native.Mathlib.Nat.{min-le_left, eq-or-lt_of_le, not-suc-le-zero}
use native.Mathlib.Omega.{arith}
use borrow.Author.Tests.{lt-ltb, le-ltb}
use lib.ListN.{length, take, get_or, length-append, get_or-append}
use lib.Seq.{get_or-append_seam, get_or-take, take_all, take-suc, length-take-le}
use Rattle.text_pieces.proofs.Decimal.{decimal-one, decimal-more}
use Rattle.text_pieces.specs.Decimal.{digit, digits_within, decimal, read_on, DigitsOf}

-- digits read one part after the other
read-append : (a b : List ℕ) (v : ℕ) → read_on v (a ++ b) ≡ read_on (read_on v a) b
read-append [] b v = refl
read-append (d ∷ a) b v = read-append a b (v * 10 + (d - digit 0))

-- a digit below ten
one-digit : (n : ℕ) → n < 10 → DigitsOf n (digit n ∷ [])
one-digit n h = record {
  are_digits = λ i l. let e : i ≡ 0 = omega arith in rw e (omega arith, omega arith);
  reads = omega arith;
  some = omega arith;
  no_zero = λ l. omega arith;
}

-- one digit reads as itself
single : (t : List ℕ) → 1 ≡ length t → read_on 0 t ≡ get_or t 0 0 - digit 0
single [] e = omega arith
single (d ∷ []) e = omega arith
single (d ∷ c ∷ t) e = omega arith

-- the digits of the tens, and then the last
more-digits : (n : ℕ) (t : List ℕ) → 10 ≤ n → DigitsOf (n / 10) t → DigitsOf n (t ++ (digit (n % 10) ∷ []))
more-digits n t h v =
    let d = digit (n % 10) in
    let long : length (t ++ (d ∷ [])) ≡ length t + 1 = length-append t (d ∷ []) in
    let front : (i : ℕ) → i < length t → get_or (t ++ (d ∷ [])) i 0 ≡ get_or t i 0 = get_or-append t (d ∷ []) 0 in
    let within : (i : ℕ) → i < length (t ++ (d ∷ [])) → i ≤ length t = λ i l. omega arith in
    let some : 1 ≤ length t = v.some in
    record {
      are_digits = λ i l. ⊎_elim (λ (e : i ≡ length t). rw (e, get_or-append_seam t d [] 0) (omega arith, omega arith)) (λ (k : i < length t). rw (front i k) (v.are_digits i k)) (eq-or-lt_of_le (within i l));
      reads = rw (read-append t (d ∷ []) 0, v.reads) (omega arith);
      some = omega arith;
      no_zero = λ l. rw (front 0 v.some) (⊎_elim (λ (e : 1 ≡ length t). let z = single t e in let r = v.reads in omega arith) v.no_zero (eq-or-lt_of_le some));
    }

digits-within : (k n : ℕ) → n < k → DigitsOf n (digits_within k n)
unfolding digits_within
digits-within zero n h = absurd (not-suc-le-zero h)
digits-within (suc k) n h =
    ⊎_elim (λ (small : min n 9 ≡ n). rw (lt-ltb n 10 (omega arith)) (one-digit n (omega arith)))
    (λ (big : min n 9 < n). rw (le-ltb n 10 (omega arith)) (more-digits n (digits_within k (n / 10)) (omega arith) (digits-within k (n / 10) (omega arith))))
    (eq-or-lt_of_le (min-le_left n 9))

pub decimal-digits : (n : ℕ) → DigitsOf n (decimal n)
unfolding decimal
decimal-digits n = digits-within (suc n) n (omega arith)

-- the digits but the last are those of the tens
fewer_digits : (k n : ℕ) (ds : List ℕ) → length ds ≡ suc (suc k) → DigitsOf n ds → read_on 0 (take (suc k) ds) * 10 + (get_or ds (suc k) 0 - digit 0) ≡ n
    → DigitsOf (n / 10) (take (suc k) ds)
fewer_digits k n ds m v e =
    let long : length (take (suc k) ds) ≡ suc k = length-take-le (suc k) ds (omega arith) in
    let last = v.are_digits (suc k) (omega arith) in
    record {
      are_digits = λ i l. rw (get_or-take (suc k) ds i 0 (omega arith)) (v.are_digits i (omega arith));
      reads = omega arith;
      some = omega arith;
      no_zero = λ l. rw (get_or-take (suc k) ds 0 0 (omega arith)) (v.no_zero (omega arith));
    }

module _ (ds : List ℕ) (k : ℕ) (m : length ds ≡ suc k) where
  -- digits are those but the last, and the last
  split : ds ≡ take k ds ++ (get_or ds k 0 ∷ [])
  split = sym (take_all (suc k) ds (omega arith)) ∙ take-suc ds k 0 (omega arith)

  reads-split : read_on 0 (take k ds) * 10 + (get_or ds k 0 - digit 0) ≡ read_on 0 ds
  reads-split = sym (read-append (take k ds) (get_or ds k 0 ∷ []) 0) ∙ sym (ap (read_on 0) split)

-- k + 1 digits that are the number's are those that `decimal` gives
digits-so-many : (k n : ℕ) (ds : List ℕ) → length ds ≡ suc k → DigitsOf n ds → ds ≡ decimal n
digits-so-many zero n ds m v =
    let last = v.are_digits 0 (omega arith) in
    let reads = reads-split ds 0 m ∙ v.reads in
    let e : get_or ds 0 0 ≡ digit n = omega arith in
    split ds 0 m ∙ ap (λ (d : ℕ). d ∷ []) e ∙ sym (decimal-one n (omega arith))
digits-so-many (suc k) n ds m v =
    let last = v.are_digits (suc k) (omega arith) in
    let reads = reads-split ds (suc k) m ∙ v.reads in
    let tens : take (suc k) ds ≡ decimal (n / 10) = digits-so-many k (n / 10) (take (suc k) ds) (length-take-le (suc k) ds (omega arith)) (fewer_digits k n ds m v reads) in
    let first : get_or (decimal (n / 10)) 0 0 ≡ get_or ds 0 0 = ap (λ (l : List ℕ). get_or l 0 0) (sym tens) ∙ get_or-take (suc k) ds 0 0 (omega arith) in
    let high = v.no_zero (omega arith) in
    let none : n / 10 ≡ 0 → get_or (decimal (n / 10)) 0 0 ≡ digit 0 = λ z. ap (λ (x : ℕ). get_or (decimal x) 0 0) z ∙ ap (λ (l : List ℕ). get_or l 0 0) (decimal-one 0 (omega arith)) in
    let e : get_or ds (suc k) 0 ≡ digit (n % 10) = omega arith in
    let low : 0 ≤ n / 10 = omega arith in
    let big : 10 ≤ n = ⊎_elim (λ (z : 0 ≡ n / 10). let y = none (sym z) in omega arith) (λ (z : 0 < n / 10). omega arith) (eq-or-lt_of_le low) in
    split ds (suc k) m ∙ rw (tens, e) (sym (decimal-more n big))

-- no other digits are the number's
pub digits-one : (n : ℕ) (ds : List ℕ) → DigitsOf n ds → ds ≡ decimal n
digits-one n ds v = let some = v.some in let m : length ds ≡ suc (length ds - 1) = omega arith in digits-so-many (length ds - 1) n ds m v
