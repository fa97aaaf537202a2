-- Texts taken apart at the first byte that differs in kind.
use mathlib.Core.Path.{◌≡◌, refl, sym, ap, ◌∙◌}
use Prim.Native.Nat.{ℕ, ◌≤◌}
use mathlib.Core.List.{List, [], ◌∷◌, ◌++◌}
use mathlib.Core.Bool.{Bool, true, false, ◌&&◌, false≢true}
use native.Mathlib.Omega.{arith}
use borrow.Author.Tests.{le-leb}
use lib.Dec.{leb}
use lib.ListN.{length, get_or}
use Rattle.lists.specs.Every.{EveryPasses}
use Rattle.lists.proofs.Every.{every_of}
use Rattle.text_pieces.specs.Decimal.{decimal, read_on}
use Rattle.text_pieces.proofs.Digits.{decimal-digits}

-- what follows does not begin with one that passes a test
abbrev pub Stops : (ℕ → Bool) → List ℕ → Type 0
Stops P [] = Unit {0}
Stops P (x ∷ xs) = P x ≡ false

abbrev pub hd : List ℕ → ℕ
hd [] = 0
hd (x ∷ xs) = x

abbrev pub tl : List ℕ → List ℕ
tl [] = []
tl (x ∷ xs) = xs

pub no-cons : {A : Type 0} (x : ℕ) (l : List ℕ) → x ∷ l ≡ [] → A
no-cons x l p = absurd (omega (arith, ap length p))

module _ (P : ℕ → Bool) where
  clash : {A : Type 0} (x y : ℕ) → x ≡ y → P x ≡ false → P y ≡ true → A
  clash x y z f t = absurd (false≢true (sym f ∙ ap P z ∙ t))

  pub split-first : (d e r s : List ℕ) → EveryPasses P d → EveryPasses P e → Stops P r → Stops P s → d ++ r ≡ e ++ s → (d ≡ e) × (r ≡ s)
  split-first [] [] r s a b h g q = (refl, q)
  split-first [] (y ∷ e) [] s a b h g q = no-cons y (e ++ s) (sym q)
  split-first [] (y ∷ e) (x ∷ r) s a b h g q = clash x y (ap hd q) h b.0
  split-first (x ∷ d) [] r [] a b h g q = no-cons x (d ++ r) q
  split-first (x ∷ d) [] r (y ∷ s) a b h g q = clash y x (sym (ap hd q)) g a.0
  split-first (x ∷ d) (y ∷ e) r s a b h g q =
      let o = split-first d e r s a.1 b.1 h g (ap tl q) in
      let z : x ≡ y = ap hd q in
      (rw (z, o.0), o.1)

-- digits
abbrev pub is_digit : ℕ → Bool
is_digit b = leb 48 b && leb b 57

digit-is : (b : ℕ) → 48 ≤ b → b ≤ 57 → is_digit b ≡ true
digit-is b h g = rw (le-leb 48 b h, le-leb b 57 g)

decimal-all : (n : ℕ) → EveryPasses is_digit (decimal n)
decimal-all n = every_of (λ b. is_digit b ≡ true) 0 (decimal n) (λ i h. let b = (decimal-digits n).are_digits i h in digit-is (get_or (decimal n) i 0) b.0 b.1)

pub decimal-parts : (n m : ℕ) (r s : List ℕ) → Stops is_digit r → Stops is_digit s → decimal n ++ r ≡ decimal m ++ s → (n ≡ m) × (r ≡ s)
decimal-parts n m r s h g q =
    let o = split-first is_digit (decimal n) (decimal m) r s (decimal-all n) (decimal-all m) h g q in
    (sym (decimal-digits n).reads ∙ ap (read_on 0) o.0 ∙ (decimal-digits m).reads, o.1)
