-- The plan check does not see over which index a scan goes: all that it asks is known by the entity-value flow.
use mathlib.Core.Path.{◌≡◌, refl, sym, ap, ◌∙◌, fun_ext}
use mathlib.Core.Logic.Iff
use mathlib.Core.Logic.{◌↔◌}
use Prim.Native.Nat.{ℕ, zero, suc, ◌<◌}
use mathlib.Core.List.{List, [], ◌∷◌}
use mathlib.Core.Bool.{Bool, false, ◌||◌, or-false, or_comm}
use native.Mathlib.Nat.{not-suc-le-zero, le_of_suc-le-suc}
use borrow.Author.Tests.{eqb-false, ne_eqb}
use lib.ListN.{length, get_or, take}
use lib.Dec.{eqb}
use Rattle.lists.proofs.Tests.{neither}
use Rattle.plan.specs.declared.Slot.{Slot}
use Rattle.plan.specs.declared.Scan.{Scan}
use Rattle.plan.specs.declared.SlotRecord.{SlotRecord}
use Rattle.plan.specs.declared.Index.{Index}
use Rattle.plan.specs.declared.Index.TheVariants.{Aevt, Avet, Eavt}
use Rattle.plan.specs.declared.Flow.{Flow}
use Rattle.plan.specs.declared.Flow.TheVariants.{OutOut, InOut, InIn}
use Rattle.plan.specs.declared.EntityValueFlow.{EntityValueFlow}
use Rattle.plan.specs.declared.EntityValueFlow.TheVariants.{OutOut as BothOut, InOut as EntityIn, OutIn as ValueIn, InIn as BothIn}
use Rattle.plan.specs.Plan.{in_order, first_access, second_access, entity_value_flow, out_out_eavt}
use Rattle.plan_check.specs.Check.{writes_to, first_writes, second_writes, is_written, is_set}
use Rattle.plan_check.specs.Promised.{Rightly, Fits}

-- two scans that do the same with the same entity and value
pub record SameAccesses (s t : Scan) : Type 0 where
  pub flows : entity_value_flow s.flow s.index ≡ entity_value_flow t.flow t.index
  pub entities : s.entity ≡ t.entity
  pub attributes : s.attribute ≡ t.attribute
  pub values : s.value ≡ t.value
  pub not_out_out_eavt : out_out_eavt t.flow t.index ≡ false

-- the same of lists of scans, one by one
pub data SameScans : List Scan → List Scan → Type 0 where
  none : SameScans [] []
  more : {s t : Scan} {ss ts : List Scan} → SameAccesses s t → SameScans ss ts → SameScans (s ∷ ss) (t ∷ ts)

-- what is written, in index order and by entity-value flow
abbrev writes_in_order : Flow → Slot → Slot → ℕ → Bool
writes_in_order f x y k = writes_to (first_access f) x.0 k || writes_to (second_access f) y.0 k

abbrev writes_by : EntityValueFlow → Slot → Slot → ℕ → Bool
writes_by BothOut e v = writes_in_order OutOut e v
writes_by EntityIn e v = writes_in_order InOut e v
writes_by ValueIn e v = writes_in_order InOut v e
writes_by BothIn e v = writes_in_order InIn e v

writes-by : (f : Flow) (x : Index) (e v : Slot) (k : ℕ) → writes_in_order f (in_order x e v) (in_order x v e) k ≡ writes_by (entity_value_flow f x) e v k
writes-by OutOut Aevt e v k = refl
writes-by OutOut Avet e v k = or_comm (eqb v.0 k) (eqb e.0 k)
writes-by OutOut Eavt e v k = refl
writes-by InOut Aevt e v k = refl
writes-by InOut Avet e v k = refl
writes-by InOut Eavt e v k = refl
writes-by InIn Aevt e v k = refl
writes-by InIn Avet e v k = refl
writes-by InIn Eavt e v k = refl

-- what the check asks of a scan's slots where `set` says which are set, likewise
module _ (n : ℕ) (set : ℕ → Bool) where
  abbrev FitsInOrder : Flow → Slot → Slot → Type 0
  FitsInOrder f x y =
      (x.0 < n) × (y.0 < n) × Rightly (first_access f) (set x.0) × Rightly (second_access f) (set y.0 || writes_to (first_access f) x.0 y.0)

  abbrev FitsBy : EntityValueFlow → Slot → Slot → Type 0
  FitsBy BothOut e v = FitsInOrder OutOut e v
  FitsBy EntityIn e v = FitsInOrder InOut e v
  FitsBy ValueIn e v = FitsInOrder InOut v e
  FitsBy BothIn e v = FitsInOrder InIn e v

  -- which slot is the first matters only where one is read and the other written
  out-out : (x y : Slot) → FitsInOrder OutOut x y → FitsInOrder OutOut y x
  out-out x y h =
      let a = neither (set y.0) (eqb x.0 y.0) h.3 in
      (h.1, h.0, a.0, simp (h.2, ne_eqb y.0 x.0 (λ e. eqb-false _ _ a.1 (sym e))))

  in-in : (x y : Slot) → FitsInOrder InIn x y → FitsInOrder InIn y x
  in-in x y h = (h.1, h.0, sym (or-false (set y.0)) ∙ h.3, or-false (set x.0) ∙ h.2)

  fits_by : (f : Flow) (i : Index) (e v : Slot) → FitsInOrder f (in_order i e v) (in_order i v e) ↔ FitsBy (entity_value_flow f i) e v
  fits_by OutOut Aevt e v = Iff.rfl
  fits_by OutOut Avet e v = (out-out v e, out-out e v)
  fits_by OutOut Eavt e v = Iff.rfl
  fits_by InOut Aevt e v = Iff.rfl
  fits_by InOut Avet e v = Iff.rfl
  fits_by InOut Eavt e v = Iff.rfl
  fits_by InIn Aevt e v = Iff.rfl
  fits_by InIn Avet e v = (in-in v e, in-in e v)
  fits_by InIn Eavt e v = Iff.rfl

-- two such scans write the same, and fit after the same
module _ {s t : Scan} (a : SameAccesses s t) where
  same_writes : (k : ℕ) → (first_writes s k || second_writes s k) ≡ (first_writes t k || second_writes t k)
  same_writes k =
      writes-by s.flow s.index s.entity s.value k ∙
      rw (a.flows, a.entities, a.values) (sym (writes-by t.flow t.index t.entity t.value k))

  same-fits : (slots : List SlotRecord) {ss ts : List Scan} → is_set slots ss ≡ is_set slots ts → Fits slots ss s → Fits slots ts t
  same-fits slots {ss} {ts} e f =
      let by = fits_by (length slots) in
      let h = (by (is_set slots ss) s.flow s.index s.entity s.value).0 (f.first_named, f.second_named, f.first_right, f.second_right) in
      let g = (by (is_set slots ts) t.flow t.index t.entity t.value).1 (rw (e, a.flows, a.entities, a.values) at h) in
      record { not_out_out_eavt = a.not_out_out_eavt; first_named = g.0; first_right = g.2; second_named = g.1; second_right = g.3 }

pub same_length : {ss ts : List Scan} → SameScans ss ts → length ss ≡ length ts
same_length none = refl
same_length (more a b) = ap suc (same_length b)

-- the same slots are written, and so the same are set
pub same-written : {ss ts : List Scan} → SameScans ss ts → (k : ℕ) → is_written ss k ≡ is_written ts k
unfolding is_written
same-written none k = refl
same-written (more a b) k = rw (same_writes a k, same-written b k)

pub same_set : {ss ts : List Scan} → SameScans ss ts → (slots : List SlotRecord) → is_set slots ss ≡ is_set slots ts
unfolding is_set
same_set b slots = fun_ext (λ k. rw (same-written b k))

same-take : {ss ts : List Scan} → SameScans ss ts → (j : ℕ) → SameScans (take j ss) (take j ts)
same-take none zero = none
same-take none (suc j) = none
same-take (more a b) zero = none
same-take (more a b) (suc j) = more a (same-take b j)

pub same_at : {ss ts : List Scan} → SameScans ss ts → (d : Scan) (j : ℕ) → j < length ts → SameAccesses (get_or ss j d) (get_or ts j d)
same_at none d j h = absurd (not-suc-le-zero h)
same_at (more a b) d zero h = a
same_at (more a b) d (suc j) h = same_at b d j (le_of_suc-le-suc h)

-- what fits after the scans before it still does
pub same-scans-fit : {ss ts : List Scan} → SameScans ss ts → (slots : List SlotRecord) (d : Scan) (j : ℕ) → j < length ts
    → Fits slots (take j ss) (get_or ss j d) → Fits slots (take j ts) (get_or ts j d)
same-scans-fit b slots d j h = same-fits (same_at b d j h) slots (same_set (same-take b j) slots)
