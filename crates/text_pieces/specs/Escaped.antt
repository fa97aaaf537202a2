-- How a name is shown within a text.
use Rattle.std.specs.Prelude.{ℕ, ◌+◌, ◌/◌, ◌%◌, List, [], ◌∷◌, Bool, not, ◌&&◌, ◌||◌, cond, ltb, leb, eqb}
use Rattle.lists.specs.Laid.{laid}

-- a byte from 33 to 126 that is no colon, comma, round bracket or backslash
abbrev pub is_plain : ℕ → Bool
is_plain b = leb 33 b && leb b 126 && not (eqb b 58 || eqb b 44 || eqb b 40 || eqb b 41 || eqb b 92)

-- the byte of a lowercase hex digit
abbrev pub hex_digit : ℕ → ℕ
hex_digit d = cond (ltb d 10) (48 + d) (87 + d)

-- within a name: any other byte is a backslash and two lowercase hex digits
unfoldable pub escaped_byte : ℕ → List ℕ
escaped_byte b = cond (is_plain b) (b ∷ []) (92 ∷ hex_digit (b / 16) ∷ hex_digit (b % 16) ∷ [])

abbrev pub escaped : List ℕ → List ℕ
escaped = laid escaped_byte
