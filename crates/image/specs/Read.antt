-- Ticket 2: reading an image in order; the first fault met is refused, its place the byte where the field begins.
use Rattle.std.specs.Prelude.{ℕ, zero, suc, ◌+◌, ◌/◌, List, [], ◌∷◌, Bool, true, not, ◌&&◌, cond, length, take, drop, ltb, eqb}
use Rattle.capacity.specs.Capacity.{max_scans, max_slots, max_selects}
use Rattle.refusal.specs.Verdict.{Refusal, Verdict}
use Rattle.std.specs.Prelude.{Ok, Err}
use Rattle.refusal.specs.Verdict.{refuse_if, or_else, rule_of}
use Rattle.lists.specs.Padded.{padded}
use Rattle.plan.specs.declared.Slot.{Slot}
use Rattle.plan.specs.declared.Scan.{Scan}
use Rattle.plan.specs.declared.SlotRecord.{SlotRecord}
use Rattle.plan.specs.declared.SlotDefinition.TheVariants.{Constant}
use Rattle.plan.specs.declared.Plan.{Plan}
use Rattle.plan.specs.Codes.{index_of_code, flow_of_code}
use Rattle.plan.specs.Plan.{zero_slot, zero_scan, variable_slot, empty_plan, counts_fault}
use Rattle.plan_check.specs.Check.{check_of}
use Rattle.image.specs.Answered.{PlanRead}
use Rattle.bits.specs.Bits.{number, unpacked, padding}

-- what was read, the bits left and the number of the first of them; or a refusal
pub data Parsed (A : Type 0) : Type 0 where
  met : A → List ℕ → ℕ → Parsed A
  stopped : Refusal → Parsed A

abbrev pub and_then : {A B : Type 0} → Parsed A → (A → List ℕ → ℕ → Parsed B) → Parsed B
and_then (met a l at) f = f a l at
and_then (stopped v) f = stopped v

-- a verdict between two fields
abbrev pub unless_fault : {A : Type 0} → Verdict → Parsed A → Parsed A
unless_fault (Ok tt) p = p
unless_fault (Err r) p = stopped r

-- a field of so many bits; 60: bits run out
abbrev pub ran_out : ℕ → Refusal
ran_out place = record { rule = rule_of 60; place = place }

unfoldable pub field : ℕ → List ℕ → ℕ → Parsed ℕ
field w l at = cond (ltb (length l) w) (stopped (ran_out (at / 8))) (met (number (take w l)) (drop w l) (at + w))

-- 61: a code 3
unfoldable pub code : List ℕ → ℕ → Parsed ℕ
code l at = and_then (field 2 l at) (λ c l' at'. unless_fault (refuse_if (eqb c 3) 61 (at / 8)) (met c l' at'))

abbrev pub slot_numbered : ℕ → Slot
slot_numbered k = record { 0 = k }

-- one bit for constant and then 64 bits if it is one
unfoldable pub slot : List ℕ → ℕ → Parsed SlotRecord
slot l at =
    and_then (field 1 l at)
    (λ k l' at'. cond (eqb k 0) (met variable_slot l' at') (and_then (field 64 l' at') (λ v l'' at''. met (record { definition = Constant v }) l'' at'')))

-- index, flow, entity, attribute, value
unfoldable pub scan : List ℕ → ℕ → Parsed Scan
scan l₀ at₀ =
    and_then (code l₀ at₀) (λ x l₁ at₁.
    and_then (code l₁ at₁) (λ f l₂ at₂.
    and_then (field 7 l₂ at₂) (λ e l₃ at₃.
    and_then (field 64 l₃ at₃) (λ a l₄ at₄.
    and_then (field 7 l₄ at₄) (λ v l₅ at₅.
    met (record { index = index_of_code x; flow = flow_of_code f; entity = slot_numbered e; attribute = record { 0 = a }; value = slot_numbered v }) l₅ at₅)))))

unfoldable pub select : List ℕ → ℕ → Parsed Slot
select l at = and_then (field 7 l at) (λ k l' at'. met (slot_numbered k) l' at')

-- so many of a kind
unfoldable pub many : {A : Type 0} → (List ℕ → ℕ → Parsed A) → ℕ → List ℕ → ℕ → Parsed (List A)
many p zero l at = met [] l at
many p (suc n) l at = and_then (p l at) (λ x l' at'. and_then (many p n l' at') (λ xs l'' at''. met (x ∷ xs) l'' at''))

-- 62: a nonzero pad bit; 63: a byte too many
unfoldable pub all_zero : List ℕ → Bool
all_zero [] = true
all_zero (b ∷ bs) = eqb b 0 && all_zero bs

unfoldable pub end_fault : List ℕ → ℕ → Verdict
end_fault l at =
    or_else (refuse_if (not (all_zero (take (padding at) l))) 62 (at / 8)) (refuse_if (ltb (padding at) (length l)) 63 ((at + padding at) / 8))

-- the plan of what was read, zeros past its counts
abbrev pub plan_read : ℕ → ℕ → ℕ → List SlotRecord → List Scan → List Slot → Plan
plan_read scans slots selects ss xs ks = record {
  scans = padded zero_scan max_scans xs;
  scan_count = scans;
  slots = padded variable_slot max_slots ss;
  slot_count = slots;
  select = padded zero_slot max_selects ks;
  select_count = selects;
}

-- the counts, 20 right after them, slots, scans, selects
unfoldable pub fields : List ℕ → ℕ → Parsed Plan
fields l₀ at₀ =
    and_then (field 6 l₀ at₀) (λ n l₁ at₁.
    and_then (field 7 l₁ at₁) (λ m l₂ at₂.
    and_then (field 6 l₂ at₂) (λ k l₃ at₃.
    unless_fault (counts_fault n m k) (
    and_then (many slot m l₃ at₃) (λ ss l₄ at₄.
    and_then (many scan n l₄ at₄) (λ xs l₅ at₅.
    and_then (many select k l₅ at₅) (λ ks l₆ at₆.
    met (plan_read n m k ss xs ks) l₆ at₆)))))))

-- the fields, the end; then the plan check
unfoldable pub parsed : List ℕ → Parsed Plan
parsed l = and_then (fields l 0) (λ p l' at. unless_fault (or_else (end_fault l' at) (check_of p)) (met p l' at))

-- the answer: the plan, or the refusal and the empty plan
abbrev pub read_as : Parsed Plan → PlanRead
read_as (met p l at) = record { verdict = Ok tt; plan = p }
read_as (stopped r) = record { verdict = Err r; plan = empty_plan }

unfoldable pub plan_read_of : List ℕ → PlanRead
plan_read_of bytes = read_as (parsed (unpacked bytes))
