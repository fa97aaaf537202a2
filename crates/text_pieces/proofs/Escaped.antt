-- Which bytes of a name stay, and that an escaped name has no colon and no space.
use mathlib.Core.Path.{◌≡◌, refl, sym, ap, ◌∙◌}
use mathlib.Core.Bool.{Bool, true, false, not, ◌&&◌, cond, false≢true}
use mathlib.Core.List.{List, [], ◌∷◌}
use Prim.Native.Nat.{ℕ, ◌+◌, ◌/◌, ◌%◌}
use native.Mathlib.Omega.{arith}
use borrow.Author.Tests.{ne_eqb, ltb-true, ltb-false}
use lib.Dec.{ltb, eqb}
use Rattle.lists.specs.Every.{EveryPasses}
use Rattle.lists.specs.Laid.{laid}
use Rattle.lists.proofs.Every.{every_append}
use Rattle.text_pieces.specs.Escaped.{is_plain, hex_digit, escaped_byte, escaped}

-- no colon and no space
abbrev pub is_shown : ℕ → Bool
is_shown b = not (eqb b 58) && not (eqb b 32)

shown-is : (b : ℕ) → (b ≡ 58 → ⊥) → (b ≡ 32 → ⊥) → is_shown b ≡ true
shown-is b h g = rw (ne_eqb b 58 h, ne_eqb b 32 g)

plain-shown : (b : ℕ) → is_plain b ≡ true → is_shown b ≡ true
plain-shown b e = shown-is b (λ z. false≢true (sym (ap is_plain z) ∙ e)) (λ z. false≢true (sym (ap is_plain z) ∙ e))

hex-shown : (d : ℕ) → is_shown (hex_digit d) ≡ true
hex-shown d = go (ltb d 10) refl
  where
    go : (t : Bool) → ltb d 10 ≡ t → is_shown (cond t (48 + d) (87 + d)) ≡ true
    go true e = let h = ltb-true d 10 e in shown-is (48 + d) (λ z. omega arith) (λ z. omega arith)
    go false e = let h = ltb-false d 10 e in shown-is (87 + d) (λ z. omega arith) (λ z. omega arith)

byte-shown : (b : ℕ) → EveryPasses is_shown (escaped_byte b)
unfolding escaped_byte
byte-shown b = go (is_plain b) refl
  where
    go : (t : Bool) → is_plain b ≡ t → EveryPasses is_shown (cond t (b ∷ []) (92 ∷ hex_digit (b / 16) ∷ hex_digit (b % 16) ∷ []))
    go true e = (plain-shown b e, tt)
    go false e = (refl, (hex-shown (b / 16), (hex-shown (b % 16), tt)))

pub escaped-shown : (l : List ℕ) → EveryPasses is_shown (escaped l)
unfolding laid
escaped-shown [] = tt
escaped-shown (b ∷ bs) = every_append (λ b. is_shown b ≡ true) (escaped_byte b) (escaped bs) (byte-shown b) (escaped-shown bs)
