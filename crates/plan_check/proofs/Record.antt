-- What the record's answer for one slot of a scan comes to: past the slots, and at one of them.
use Rattle.std.specs.Prelude.{◌≡◌, ℕ, ◌≤◌, ◌<◌, List, get_or}
use borrow.Author.Tests.{le-leb, lt-leb}
use Rattle.refusal.specs.Verdict.{refused}
use Rattle.plan.specs.declared.Slot.{Slot}
use Rattle.plan.specs.declared.Access.{Access}
use Rattle.plan_check.specs.declared.Initialization.{Initialization}
use Rattle.plan_check.specs.declared.Initialization.TheVariants.{Unset}
use Rattle.plan_check.specs.Check.{access_fault}
use Rattle.plan_check.specs.Record.{is_set_state, slot_fault_in}

module _ (n : ℕ) (rec : List Initialization) (a : Access) (k : Slot) (i : ℕ) where
  pub slot-past : n ≤ k.0 → slot_fault_in n rec a k i ≡ refused 22 i
  unfolding slot_fault_in
  slot-past h = rw (le-leb _ _ h)

  pub slot-within : k.0 < n → slot_fault_in n rec a k i ≡ access_fault a (is_set_state (get_or rec k.0 Unset)) i
  unfolding slot_fault_in
  slot-within h = rw (lt-leb _ _ h)

pub ruleset slots = (slot-past, slot-within)
