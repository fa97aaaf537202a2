-- What follows of an answer that is what a definition reads: one field, one after the other, and what is made of them.
use mathlib.Core.Path.{◌≡◌, refl, sym, ap, ◌∙◌}
use Prim.Native.Nat.{ℕ, ◌+◌, ◌*◌, ◌/◌}
use mathlib.Core.List.{List}
use mathlib.Core.Bool.{true, false}
use native.Mathlib.Omega.{arith}
use borrow.Author.Tests.{ltb-false}
use lib.ListN.{length, take}
use lib.Dec.{ltb}
use Rattle.std.specs.Prelude.{Result, Ok, Err}
use Rattle.refusal.specs.Verdict.{Refusal}
use Rattle.bits.specs.Bits.{number}
use Rattle.image.specs.Read.{Parsed, met, and_then, ran_out}
use Rattle.image.proofs.Places.{field_at}
use Rattle.image_read.specs.declared.fields.Cursor.{Cursor}
use Rattle.image_read.specs.Reads.{bit_of, bits_from, Within, Moved, Reads, ReadsField}
use Rattle.image_read.proofs.Window.{bits-at-lt}

-- the byte where a field begins
pub byte_of : (b : List ℕ) (c : Cursor) → Within b c → bit_of c / 8 ≡ c.byte
byte_of b c h = let k = h.in_byte in omega arith

-- a field for which bits run out, and one that is there
module _ (b : List ℕ) (c : Cursor) (w : ℕ) (h : Within b c) where
  pub field-short : ltb (8 * length b) (bit_of c + w) ≡ true → ReadsField w b c (Err (ran_out c.byte))
  field-short e =
      record {
        reads = record { answers = sym (field_at w (bit_of c) b h.in_bytes ∙ rw (e, byte_of b c h) refl); within = tt };
        fits = tt;
      }

  pub field-met : (d : Cursor) (v : ℕ) → ltb (8 * length b) (bit_of c + w) ≡ false → Moved c w d → v ≡ number (take w (bits_from b c)) → ReadsField w b c (Ok (v, d))
  field-met d v e m s =
      let k = ltb-false _ _ e in
      record {
        reads = record {
          answers = sym (field_at w (bit_of c) b h.in_bytes ∙ rw (e, ← m.later, ← s) refl);
          within = record { in_byte = m.in_byte; in_bytes = rw m.later k };
        };
        fits = rw s (bits-at-lt b (bit_of c) w k);
      }

module _ {A B : Type 0} {p : List ℕ → ℕ → Parsed A} {b : List ℕ} {c : Cursor} where
  -- something is read, and then something else
  pub read-then : {a : A} {d : Cursor} → Reads p b c (Ok (a, d)) → (q : A → List ℕ → ℕ → Parsed B) → {out : Result (B × Cursor) Refusal} → Reads (q a) b d out
      → Reads (λ l at. and_then (p l at) q) b c out
  read-then r q s = record { answers = s.answers ∙ ap (λ (x : Parsed A). and_then x q) r.answers; within = s.within }

  -- or nothing more
  pub read-stop : {f : Refusal} → Reads p b c (Err f) → (q : A → List ℕ → ℕ → Parsed B) → Reads (λ l at. and_then (p l at) q) b c (Err f)
  read-stop r q = record { answers = ap (λ (x : Parsed A). and_then x q) r.answers; within = tt }

  -- and what is made of it
  pub read-as : {a : A} {d : Cursor} → Reads p b c (Ok (a, d)) → (g : A → B) → Reads (λ l at. and_then (p l at) (λ x l' at'. met (g x) l' at')) b c (Ok (g a, d))
  read-as r g = record { answers = ap (λ (x : Parsed A). and_then x (λ x l' at'. met (g x) l' at')) r.answers; within = r.within }
