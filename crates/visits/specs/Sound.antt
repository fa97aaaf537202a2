-- What evaluation leans on of a plan's scans, and when two states of the slots lead to the same visits.
use Rattle.std.specs.Prelude.{◌≡◌, false, List, ◌∷◌, ℕ, suc, ◌<◌, length, get_or, set, drop}
use Rattle.plan.specs.declared.Scan.{Scan}
use Rattle.plan.specs.declared.Flow.{Flow}
use Rattle.plan.specs.declared.Flow.TheVariants.{OutOut, InOut, InIn}
use Rattle.plan.specs.declared.Access.TheVariants.{Reads, Writes}
use Rattle.plan.specs.Plan.{first_slot, second_slot, first_access, second_access, out_out_eavt, zero_scan}
use Rattle.plan_check.specs.Check.{is_written}

-- the slots where a scan stands, by its slots x and y in index order and the words u and v that lie in the row for them
abbrev pub stood : Flow → ℕ → ℕ → ℕ → ℕ → List ℕ → List ℕ
stood OutOut x y u v slots = set (set slots x u) y v
stood InOut x y u v slots = set slots y v
stood InIn x y u v slots = slots

-- what evaluation leans on of a scan with these after it, in a plan of `count` slots
pub record Steady (count : ℕ) (s : Scan) (after : List Scan) : Type 0 where
  pub first_in : (first_slot s).0 < count
  pub second_in : (second_slot s).0 < count
  pub apart : first_access s.flow ≡ Writes → (first_slot s).0 ≡ (second_slot s).0 → ⊥
  pub first_kept : first_access s.flow ≡ Reads → is_written (s ∷ after) (first_slot s).0 ≡ false
  pub second_kept : second_access s.flow ≡ Reads → is_written (s ∷ after) (second_slot s).0 ≡ false
  pub not_out_out_eavt : out_out_eavt s.flow s.index ≡ false

-- and of all of a plan's scans
abbrev pub Sound : ℕ → List Scan → Type 0
Sound count ss = (i : ℕ) → i < length ss → Steady count (get_or ss i zero_scan) (drop (suc i) ss)

-- two states agree on the slots that none of the scans writes
pub record Agree (ss : List Scan) (a b : List ℕ) : Type 0 where
  pub same : (x : ℕ) → is_written ss x ≡ false → get_or a x 0 ≡ get_or b x 0
