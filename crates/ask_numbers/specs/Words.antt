-- docs/LAYOUT.md, "Numbers": what a text of bytes says.
use Rattle.std.specs.Prelude.{ℕ, ◌+◌, ◌-◌, ◌*◌, ◌^◌, Bool, true, false, cond, ◌&&◌, ◌||◌, Option, Some, None, List, [], ◌∷◌, ◌++◌, length, take, drop, leb, ltb, eqb}
use Rattle.text_pieces.specs.Decimal.{digit as digitByte}

-- the bytes that separate numbers: tab, line feed, carriage return, space
unfoldable pub space : ℕ → Bool
space b = eqb b 9 || (eqb b 10 || (eqb b 13 || eqb b 32))

-- the bytes of digits, from 0 to 9
unfoldable pub digit : ℕ → Bool
digit b = leb (digitByte 0) b && leb b (digitByte 9)

-- and what one counts
abbrev pub digit_value : ℕ → ℕ
digit_value b = b - digitByte 0

-- a number with one more digit
abbrev pub longer : ℕ → ℕ → ℕ
longer v b = v * 10 + digit_value b

-- whether a byte is the next digit of a number: a digit, not after a leading zero, and the number stays below 2^64
unfoldable pub goes_on : ℕ → ℕ → Bool
goes_on v b = digit b && (ltb 0 v && ltb (longer v b) (2 ^ 64))

-- the numbers in a text, and whether all of it is in the layout; where it is not, the numbers before the first byte outside the layout
pub record Said : Type 0 where
  pub inside : Bool
  pub words : List ℕ

-- the end of a text that is in the layout
abbrev pub end : Said
end = record { inside = true; words = [] }

-- from here on the text is outside the layout
abbrev pub outside : Said
outside = record { inside = false; words = [] }

-- numbers in front of those of the rest
abbrev pub in_front : List ℕ → Said → Said
in_front vs s = record { inside = s.inside; words = vs ++ s.words }

-- what bytes say that begin between numbers; and those that follow digits which read as v
unfoldable mutual
  pub said : List ℕ → Said
  said [] = end
  said (b ∷ bs) = cond (space b) (said bs) (cond (digit b) (said_after bs (digit_value b)) outside)

  pub said_after : List ℕ → ℕ → Said
  said_after [] v = in_front (v ∷ []) end
  said_after (b ∷ bs) v = cond (space b) (in_front (v ∷ []) (said bs)) (cond (goes_on v b) (said_after bs (longer v b)) outside)

-- how many numbers there are, where all is in the layout and there is room for them; else none
unfoldable pub read_from : Said → ℕ → Option ℕ
read_from s room = cond (s.inside && leb (length s.words) room) (Some (length s.words)) None

-- numbers over the front of a buffer, as many as it has room for
unfoldable pub over : List ℕ → List ℕ → List ℕ
over ws buffer = take (length buffer) ws ++ drop (length ws) buffer

-- what is read of a text into a buffer of `room` words
abbrev pub read_of : List ℕ → ℕ → Option ℕ
read_of text room = read_from (said text) room

-- and the buffer after it
abbrev pub words_after : List ℕ → List ℕ → List ℕ
words_after text buffer = over (said text).words buffer
