-- Slots counted and written, one more at a time.
use mathlib.Core.Path.{◌≡◌, ap, ◌∙◌}
use Prim.Native.Nat.{ℕ, ◌+◌, ◌*◌, ◌<◌, ◌≤◌}
use mathlib.Core.List.{List}
use native.Mathlib.Omega.{arith}
use lib.ListN.{length, get_or, take, length-append}
use lib.Seq.{length-take-le}
use Rattle.lists.specs.Laid.{laid}
use Rattle.lists.proofs.Laid.{laid-step, laid-length}
use Rattle.plan.specs.declared.SlotRecord.{SlotRecord}
use Rattle.plan.specs.Plan.{variable_slot}
use Rattle.image.specs.Image.{slot_bits}
use Rattle.image.proofs.Length.{slots-few}

-- the bits of the first slots, and of one more
pub slots_next : (l : List SlotRecord) (i : ℕ) → i < length l
    → length (laid slot_bits (take (i + 1) l)) ≡ length (laid slot_bits (take i l)) + length (slot_bits (get_or l i variable_slot))
slots_next l i h = ap length (laid-step slot_bits l i variable_slot h) ∙ length-append (laid slot_bits (take i l)) (slot_bits (get_or l i variable_slot))

-- which are few
pub slots-most : (l : List SlotRecord) (i : ℕ) → i ≤ length l → length (laid slot_bits (take i l)) ≤ 65 * i
slots-most l i h = let e : length (take i l) ≡ i = length-take-le i l h in omega (arith, slots-few (take i l))

-- the bits of the first of records that are all as long
pub laid-front : {A : Type 0} (f : A → List ℕ) (k : ℕ) → ((x : A) → length (f x) ≡ k) → (l : List A) (i : ℕ) → i ≤ length l → length (laid f (take i l)) ≡ k * i
laid-front f k each l i h = laid-length f k each (take i l) ∙ ap (λ (n : ℕ). k * n) (length-take-le i l h)
