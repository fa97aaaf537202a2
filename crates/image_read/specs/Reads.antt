-- What the private functions of reading answer, against the definition of an image: where a field begins, and what follows it.
use Rattle.std.specs.Prelude.{◌≡◌, ℕ, ◌+◌, ◌*◌, ◌^◌, ◌<◌, ◌≤◌, List, length, take, drop, Result, Ok, Err}
use Rattle.refusal.specs.Verdict.{Refusal}
use Rattle.lists.specs.Padded.{padded}
use Rattle.bits.specs.Bits.{unpacked}
use Rattle.image.specs.Read.{Parsed, met, stopped, field, many}
use Rattle.image_read.specs.declared.fields.Cursor.{Cursor}

-- the number of the bit where a field begins
abbrev pub bit_of : Cursor → ℕ
bit_of c = 8 * c.byte + c.bit

-- the bits from there on
abbrev pub bits_from : List ℕ → Cursor → List ℕ
bits_from bytes c = drop (bit_of c) (unpacked bytes)

-- it begins within the bytes, or right behind them
pub record Within (bytes : List ℕ) (c : Cursor) : Type 0 where
  pub in_byte : c.bit < 8
  pub in_bytes : bit_of c ≤ 8 * length bytes

-- so many bits stand there
pub record BitsThere (bytes : List ℕ) (c : Cursor) (width : ℕ) : Type 0 where
  pub in_byte : c.bit < 8
  pub there : bit_of c + width ≤ 8 * length bytes

-- so many bits further on
pub record Moved (c : Cursor) (width : ℕ) (d : Cursor) : Type 0 where
  pub in_byte : d.bit < 8
  pub later : bit_of d ≡ bit_of c + width

-- what was read, and the bits that follow; or why reading stopped
abbrev pub read_to : {A : Type 0} → List ℕ → Result (A × Cursor) Refusal → Parsed A
read_to bytes (Ok r) = met r.0 (bits_from bytes r.1) (bit_of r.1)
read_to bytes (Err r) = stopped r

-- what follows begins within the bytes
abbrev pub EndsWithin : {A : Type 0} → List ℕ → Result (A × Cursor) Refusal → Type 0
EndsWithin bytes (Ok r) = Within bytes r.1
EndsWithin bytes (Err r) = Unit {0}

-- an answer is what p reads from a bit on
pub record Reads {A : Type 0} (p : List ℕ → ℕ → Parsed A) (bytes : List ℕ) (c : Cursor) (out : Result (A × Cursor) Refusal) : Type 0 where
  pub answers : read_to bytes out ≡ p (bits_from bytes c) (bit_of c)
  pub within : EndsWithin bytes out

-- a number that fits so many bits
abbrev pub FitsBits : ℕ → Result (ℕ × Cursor) Refusal → Type 0
FitsBits width (Ok r) = r.0 < 2 ^ width
FitsBits width (Err r) = Unit {0}

-- of a field: its number fits its bits
pub record ReadsField (width : ℕ) (bytes : List ℕ) (c : Cursor) (out : Result (ℕ × Cursor) Refusal) : Type 0 where
  pub reads : Reads (field width) bytes c out
  pub fits : FitsBits width out

-- of an array its first n places
abbrev pub first_of : {A : Type 0} → ℕ → Result (List A × Cursor) Refusal → Result (List A × Cursor) Refusal
first_of n (Ok r) = Ok (take n r.0, r.1)
first_of n (Err r) = Err r

-- and what it holds past these
abbrev pub PaddedWith : {A : Type 0} → A → ℕ → ℕ → Result (List A × Cursor) Refusal → Type 0
PaddedWith z room n (Ok r) = r.0 ≡ padded z room (take n r.0)
PaddedWith z room n (Err r) = Unit {0}

-- of an array whose first n places are filled, and which holds z past these
pub record ReadsMany {A : Type 0} (p : List ℕ → ℕ → Parsed A) (z : A) (room n : ℕ) (bytes : List ℕ) (c : Cursor) (out : Result (List A × Cursor) Refusal) : Type 0 where
  pub reads : Reads (many p n) bytes c (first_of n out)
  pub filled : PaddedWith z room n out
