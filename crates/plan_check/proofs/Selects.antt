-- What the check of the selects comes to, one more at a time; and of one: past the slots, and at one of them.
use mathlib.Core.Path.{◌≡◌}
use Prim.Native.Nat.{ℕ, ◌+◌, ◌≤◌, ◌<◌}
use native.Mathlib.Numerals.{add-one}
use mathlib.Core.List.{List}
use borrow.Author.Tests.{le-leb, lt-leb}
use lib.ListN.{length, get_or, drop, drop_of_length-le}
use lib.Seq.{drop-cons}
use Rattle.std.specs.Prelude.{Ok}
use Rattle.refusal.specs.Verdict.{refused, refuse_if, or_else, first_fault}
use Rattle.plan.specs.declared.Slot.{Slot}
use Rattle.plan.specs.declared.SlotRecord.{SlotRecord}
use Rattle.plan.specs.Plan.{constant_at, zero_slot}
use Rattle.plan_check.specs.Check.{select_fault, selects_fault}

module _ (slots : List SlotRecord) (i : ℕ) (k : Slot) where
  pub select-past : length slots ≤ k.0 → select_fault slots i k ≡ refused 26 i
  unfolding select_fault
  select-past h = rw (le-leb _ _ h)

  pub select-within : k.0 < length slots → select_fault slots i k ≡ refuse_if (constant_at slots k.0) 29 i
  unfolding select_fault
  select-within h = rw (lt-leb _ _ h)

module _ (slots : List SlotRecord) (ks : List Slot) (i : ℕ) where
  pub selects-at : i < length ks
      → selects_fault slots (drop i ks) i ≡ or_else (select_fault slots i (get_or ks i zero_slot)) (selects_fault slots (drop (i + 1) ks) (i + 1))
  unfolding selects_fault first_fault
  selects-at h = rw (drop-cons ks i zero_slot h, add-one)

  pub selects-past : length ks ≤ i → selects_fault slots (drop i ks) i ≡ Ok tt
  unfolding selects_fault first_fault
  selects-past h = rw (drop_of_length-le ks h)

pub ruleset selects = (select-past, select-within, selects-at, selects-past)
