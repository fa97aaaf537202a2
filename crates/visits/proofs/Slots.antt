-- What stale slots do not change: a scan reads only slots that neither it nor a later scan writes, so two states that agree on these visit
-- the same rows, and agree on as much once the scan stands at the same row.
use mathlib.Core.Path.{◌≡◌, refl, ap, ◌∙◌}
use mathlib.Core.Bool.{false}
use mathlib.Core.List.{List, ◌∷◌}
use Prim.Native.Nat.{ℕ, ◌+◌}
use lib.ListN.{length, get_or, take}
use Rattle.tables.specs.Rows.{row, matching}
use Rattle.plan.specs.declared.Scan.{Scan}
use Rattle.plan.specs.declared.Index.{Index}
use Rattle.plan.specs.declared.Index.TheVariants.{Aevt, Avet, Eavt}
use Rattle.plan.specs.declared.Flow.{Flow}
use Rattle.plan.specs.declared.Flow.TheVariants.{OutOut, InOut, InIn}
use Rattle.plan.specs.declared.Access.TheVariants.{Reads}
use Rattle.plan.specs.Plan.{in_order, first_slot, second_slot, first_access, second_access, out_out_eavt}
use Rattle.plan_check.specs.Check.{is_written}
use Rattle.visits.specs.Visits.{Tables, table_of, row_for, inputs, wanted, visited, standing}
use Rattle.lists.proofs.Tests.{neither}
use Rattle.visits.specs.Sound.{stood, Steady, Agree}
use Rattle.visits.proofs.Stood.{no-yes, stood-by, stood-length, stood-other, stood-agree}

-- a key reads only the slots that the scan reads
key-by : (x : Index) (f : Flow) (s : Scan) (a b : List ℕ) → out_out_eavt f x ≡ false
    → (first_access f ≡ Reads → get_or a (in_order x s.entity s.value).0 0 ≡ get_or b (in_order x s.entity s.value).0 0)
    → (second_access f ≡ Reads → get_or a (in_order x s.value s.entity).0 0 ≡ get_or b (in_order x s.value s.entity).0 0)
    → take (1 + inputs f) (row_for x (wanted s a)) ≡ take (1 + inputs f) (row_for x (wanted s b))
key-by Aevt OutOut s a b o p q = refl
key-by Avet OutOut s a b o p q = refl
key-by Eavt OutOut s a b o p q = no-yes o
key-by Aevt InOut s a b o p q = rw (p refl)
key-by Avet InOut s a b o p q = rw (p refl)
key-by Eavt InOut s a b o p q = rw (p refl)
key-by Aevt InIn s a b o p q = rw (p refl, q refl)
key-by Avet InIn s a b o p q = rw (p refl, q refl)
key-by Eavt InIn s a b o p q = rw (p refl, q refl)

module _ (ts : Tables) (s : Scan) where
  -- the words that row k holds for the scan's slots
  abbrev pub first_word : ℕ → ℕ
  first_word k = get_or (row (table_of ts s.index) k) 1 0

  abbrev pub second_word : ℕ → ℕ
  second_word k = get_or (row (table_of ts s.index) k) 2 0

  module _ {count : ℕ} {after : List Scan} (ok : Steady count s after) where
    -- a scan's step in index order, as evaluation takes it
    pub standing-stood : (k : ℕ) (a : List ℕ) → standing ts s a k ≡ stood s.flow (first_slot s).0 (second_slot s).0 (first_word k) (second_word k) a
    unfolding standing
    standing-stood k a =
        stood-by s.index s.flow s.entity s.value (row (table_of ts s.index) k) a ok.not_out_out_eavt ok.apart

    -- a scan's key is the same, and so are its rows
    pub key-agree : {a b : List ℕ} → Agree (s ∷ after) a b
        → take (1 + inputs s.flow) (row_for s.index (wanted s a)) ≡ take (1 + inputs s.flow) (row_for s.index (wanted s b))
    key-agree {a} {b} h =
        key-by s.index s.flow s a b ok.not_out_out_eavt (λ r. h.same _ (ok.first_kept r)) (λ r. h.same _ (ok.second_kept r))

    pub visited-agree : {a b : List ℕ} → Agree (s ∷ after) a b → visited ts s a ≡ visited ts s b
    unfolding visited
    visited-agree h = ap (matching (table_of ts s.index)) (key-agree h)

    pub standing-length : (k : ℕ) (a : List ℕ) → length (standing ts s a k) ≡ length a
    standing-length k a = ap length (standing-stood k a) ∙ stood-length _ _ _ _ s.flow a

    -- a step keeps two states that agree
    pub standing-agree : (k : ℕ) {a b : List ℕ} → length a ≡ count → length b ≡ count → Agree (s ∷ after) a b
        → Agree after (standing ts s a k) (standing ts s b k)
    unfolding is_written
    standing-agree k {a} {b} l m h = record {
      same =
          λ x n.
          rw (standing-stood k a, standing-stood k b)
          (stood-agree _ _ _ _ s.flow a b x
          (rw l ok.first_in) (rw m ok.first_in) (rw l ok.second_in) (rw m ok.second_in) (λ e. h.same x (rw (e, n) refl)));
    }

    -- what agrees after a step agreed before it
    pub standing-back : (k : ℕ) {a b : List ℕ} → Agree after a (standing ts s b k) → Agree (s ∷ after) a b
    unfolding is_written
    standing-back k {a} {b} h = record {
      same =
          λ x n.
          let e = neither _ (is_written after x) n in
          h.same x e.1 ∙ rw (standing-stood k b) (stood-other _ _ _ _ s.flow b x e.0);
    }
