-- What the code reads off the words is the scan's: what a row holds for its slots.
use mathlib.Core.Path.{◌≡◌, refl, sym, ◌∙◌}
use mathlib.Core.List.{List}
use Prim.Native.Nat.{ℕ, ◌+◌, ◌*◌, ◌<◌}
use native.Mathlib.Omega.{arith}
use lib.ListN.{get_or, set}
use Rattle.datom.specs.Fact.{words}
use Rattle.tables.specs.Rows.{count, row}
use Rattle.tables.proofs.Table.{row_words}
use Rattle.plan.specs.declared.Scan.{Scan}
use Rattle.plan.specs.declared.Flow.{Flow}
use Rattle.plan.specs.declared.Flow.TheVariants.{OutOut, InOut, InIn}
use Rattle.plan.specs.Plan.{zero_scan}
use Rattle.visits.specs.Visits.{inputs}
use Rattle.eval.specs.Words.{laid_words, scans_in, LiesAt}
use Rattle.eval.specs.Steps.{filled_from}

-- a flow by its inputs
flow-none : (f : Flow) → inputs f ≡ 0 → f ≡ OutOut
flow-none OutOut e = refl
flow-none InOut e = absurd (omega arith)
flow-none InIn e = absurd (omega arith)

flow-one : (f : Flow) → (inputs f ≡ 0 → ⊥) → (inputs f ≡ 2 → ⊥) → f ≡ InOut
flow-one OutOut a b = absurd (a refl)
flow-one InOut a b = refl
flow-one InIn a b = absurd (b refl)

module _ {ws : List ℕ} {n i : ℕ} (h : LiesAt ws n i) (slots : List ℕ) where
  abbrev scan : Scan
  scan = get_or (scans_in ws) i zero_scan

  abbrev word : ℕ → ℕ
  word k = get_or ws (laid_words * i + k) 0

  module _ (t : List ℕ) (k : ℕ) (l : k < count t) where
    pub filled-one : (word 1 ≡ 0 → ⊥) → (word 1 ≡ 2 → ⊥) → set slots (word 4) (get_or t (words * k + 2) 0) ≡ filled_from (row t k) scan slots
    filled-one a b =
        rw (flow-one scan.flow (λ e. a (h.inputs_is ∙ e)) (λ e. b (h.inputs_is ∙ e)), h.second_is, row_words t k l) refl

    pub filled_none : word 1 ≡ 0 → set (set slots (word 3) (get_or t (words * k + 1) 0)) (word 4) (get_or t (words * k + 2) 0) ≡ filled_from (row t k) scan slots
    filled_none e = rw (flow-none scan.flow (sym h.inputs_is ∙ e), h.first_is, h.second_is, row_words t k l) refl
