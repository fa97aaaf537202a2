-- The fields of a plan in two parts: the three counts, and what stands behind them.
use Rattle.std.specs.Prelude.{ℕ, List, Result, Ok, Err}
use Rattle.refusal.specs.Verdict.{Refusal}
use Rattle.plan.specs.declared.Plan.{Plan}
use Rattle.plan.specs.Plan.{counts_fault, Counted}
use Rattle.image.specs.Read.{Parsed, met, and_then, unless_fault, field, slot, scan, select, many, plan_read}
use Rattle.image_read.specs.declared.Counts.{Counts}
use Rattle.image_read.specs.declared.fields.Cursor.{Cursor}
use Rattle.image_read.specs.Reads.{Reads}

-- where an image begins
abbrev pub start : Cursor
start = record { byte = 0; bit = 0 }

abbrev pub counts_read : ℕ → ℕ → ℕ → Counts
counts_read n m k = record { scans = n; slots = m; selects = k }

-- the counts, 20 right after them
unfoldable pub counted : List ℕ → ℕ → Parsed Counts
counted l₀ at₀ =
    and_then (field 6 l₀ at₀) (λ n l₁ at₁.
    and_then (field 7 l₁ at₁) (λ m l₂ at₂.
    and_then (field 6 l₂ at₂) (λ k l₃ at₃.
    unless_fault (counts_fault n m k) (met (counts_read n m k) l₃ at₃))))

-- slots, scans, selects
unfoldable pub plan_behind : Counts → List ℕ → ℕ → Parsed Plan
plan_behind c l₃ at₃ =
    and_then (many slot c.slots l₃ at₃) (λ ss l₄ at₄.
    and_then (many scan c.scans l₄ at₄) (λ xs l₅ at₅.
    and_then (many select c.selects l₅ at₅) (λ ks l₆ at₆.
    met (plan_read c.scans c.slots c.selects ss xs ks) l₆ at₆)))

-- where reading goes on the counts are within the capacities
abbrev pub FewCounts : Result (Counts × Cursor) Refusal → Type 0
FewCounts (Ok r) = Counted r.0.scans r.0.slots r.0.selects
FewCounts (Err r) = Unit {0}

-- an answer is what the counts say, within the capacities
pub record ReadsCounts (bytes : List ℕ) (out : Result (Counts × Cursor) Refusal) : Type 0 where
  pub reads : Reads counted bytes start out
  pub few : FewCounts out
