-- Laws of single bytes, spaces and those of a name that stay: they say the definitions of a space and of a plain byte test by test.
use mathlib.Core.Path.{◌≡◌}
use mathlib.Core.Bool.{true, not}
use Prim.Native.Nat.{ℕ, ◌≤◌}
use lib.Dec.{eqb}
use borrow.Author.Tests.{eq-eqb, ne_eqb, le-leb}
use Rattle.text_pieces.specs.Escaped.{is_plain}
use Rattle.ask_numbers.specs.Words.{space}

-- where every test but the last is decided
pub plain-last : (b : ℕ) → 33 ≤ b → b ≤ 126 → (b ≡ 58 → ⊥) → (b ≡ 44 → ⊥) → (b ≡ 40 → ⊥) → (b ≡ 41 → ⊥) → not (eqb b 92) ≡ is_plain b
plain-last b low high h₁ h₂ h₃ h₄ = rw (le-leb 33 b low, le-leb b 126 high, ne_eqb b 58 h₁, ne_eqb b 44 h₂, ne_eqb b 40 h₃, ne_eqb b 41 h₄)

module _ (b : ℕ) where
  pub space-tab : b ≡ 9 → true ≡ space b
  unfolding space
  space-tab h = rw (eq-eqb b 9 h)

  module _ (no-tab : b ≡ 9 → ⊥) where
    pub space-line-feed : b ≡ 10 → true ≡ space b
    unfolding space
    space-line-feed h = rw (ne_eqb b 9 no-tab, eq-eqb b 10 h)

    module _ (no-line-feed : b ≡ 10 → ⊥) where
      pub space-return : b ≡ 13 → true ≡ space b
      unfolding space
      space-return h = rw (ne_eqb b 9 no-tab, ne_eqb b 10 no-line-feed, eq-eqb b 13 h)

      pub space-last : (b ≡ 13 → ⊥) → eqb b 32 ≡ space b
      unfolding space
      space-last h = rw (ne_eqb b 9 no-tab, ne_eqb b 10 no-line-feed, ne_eqb b 13 h)
