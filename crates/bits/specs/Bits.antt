-- Numbers as bits, most significant first, and bits in bytes.
use Rattle.std.specs.Prelude.{ℕ, zero, suc, ◌+◌, ◌*◌, ◌/◌, ◌%◌, ◌^◌, ◌-◌, ◌<◌, List, [], ◌∷◌, ◌++◌, length, get_or, take, drop}
use Rattle.std.proofs.lemmas.List.Edits.{sets}
use Rattle.lists.specs.Every.{Every}
use Rattle.lists.specs.Laid.{laid}
use Rattle.lists.specs.Padded.{padded}

-- so many bits of a number, most significant first
unfoldable pub bits : ℕ → ℕ → List ℕ
bits zero n = []
bits (suc w) n = n / 2 ^ w % 2 ∷ bits w n

-- the number that bits say, after others that say v
unfoldable pub number_from : ℕ → List ℕ → ℕ
number_from v [] = v
number_from v (b ∷ bs) = number_from (v * 2 + b) bs

abbrev pub number : List ℕ → ℕ
number = number_from 0

-- the bits of bytes
abbrev pub unpacked : List ℕ → List ℕ
unpacked = laid (bits 8)

-- eight bits to a byte, zero bits to the next byte; at most so many bytes
unfoldable pub packed_within : ℕ → List ℕ → List ℕ
packed_within zero l = []
packed_within (suc k) [] = []
packed_within (suc k) (b ∷ bs) = number (padded 0 8 (b ∷ bs)) ∷ packed_within k (drop 8 (b ∷ bs))

abbrev pub packed : List ℕ → List ℕ
packed l = packed_within (length l) l

-- zero bits to the next byte
abbrev pub padding : ℕ → ℕ
padding at = (8 - at % 8) % 8

-- all below n: of bits below 2, of bytes below 256
abbrev pub AllBelow : ℕ → List ℕ → Type 0
AllBelow n = Every (λ (x : ℕ). x < n)

-- the bits of a buffer's byte that stand in front of bit `at`
abbrev pub bits_before : List ℕ → ℕ → List ℕ
bits_before buffer at = take (at % 8) (bits 8 (get_or buffer (at / 8) 0))

-- bits put over those of a buffer from bit `at` on, and zero bits to the next byte, as far as the buffer reaches; no bits change nothing
abbrev pub bits_over : List ℕ → ℕ → List ℕ → List ℕ
bits_over buffer at [] = buffer
bits_over buffer at (b ∷ bs) = sets buffer (at / 8) (packed (bits_before buffer at ++ (b ∷ bs)))
