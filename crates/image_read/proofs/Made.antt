-- A code, a slot, a scan and a select, by the answers of their fields.
use mathlib.Core.Path.{◌≡◌, refl, ◌∙◌}
use Prim.Native.Nat.{ℕ, ◌/◌}
use mathlib.Core.List.{List}
use mathlib.Core.Bool.{cond}
use borrow.Author.Tests.{eq-eqb, ne_eqb}
use lib.Dec.{eqb}
use Rattle.std.specs.Prelude.{Ok, Err}
use Rattle.refusal.specs.Verdict.{Refusal, refuse_if, rule_of}
use Rattle.plan.specs.declared.Scan.{Scan}
use Rattle.plan.specs.declared.SlotRecord.{SlotRecord}
use Rattle.plan.specs.declared.SlotDefinition.TheVariants.{Constant}
use Rattle.plan.specs.Codes.{index_of_code, flow_of_code}
use Rattle.plan.specs.Plan.{variable_slot}
use Rattle.image.specs.Read.{Parsed, met, and_then, unless_fault, field, code, slot, select, slot_numbered}
use Rattle.image_read.specs.declared.fields.Cursor.{Cursor}
use Rattle.image_read.specs.Reads.{bit_of, Within, Reads}
use Rattle.image_read.proofs.Answered.{byte_of, read-then, read-stop, read-as}

-- 61: a code 3
abbrev coded : ℕ → ℕ → List ℕ → ℕ → Parsed ℕ
coded place n l at = unless_fault (refuse_if (eqb n 3) 61 place) (met n l at)

module _ {b : List ℕ} {c : Cursor} where
  pub code-stopped : {f : Refusal} → Reads (field 2) b c (Err f) → Reads code b c (Err f)
  unfolding code
  code-stopped r = let s = read-stop r (coded (bit_of c / 8)) in record { answers = s.answers; within = tt }

  module _ {n : ℕ} {d : Cursor} (r : Reads (field 2) b c (Ok (n, d))) where
    pub code-refused : Within b c → n ≡ 3 → Reads code b c (Err (record { rule = rule_of 61; place = c.byte }))
    unfolding code
    code-refused h k =
        let t : Reads (coded (bit_of c / 8) n) b d (Err (record { rule = rule_of 61; place = c.byte })) = record { answers = rw (eq-eqb n 3 k, byte_of b c h) refl; within = tt } in
        let s = read-then r (coded (bit_of c / 8)) t in
        record { answers = s.answers; within = tt }

    pub code-met : (n ≡ 3 → ⊥) → Reads code b c (Ok (n, d))
    unfolding code
    code-met k =
        let t : Reads (coded (bit_of c / 8) n) b d (Ok (n, d)) = record { answers = rw (ne_eqb n 3 k) refl; within = r.within } in
        let s = read-then r (coded (bit_of c / 8)) t in
        record { answers = s.answers; within = s.within }

-- one bit for constant and then 64 bits if it is one
abbrev constant_behind : List ℕ → ℕ → Parsed SlotRecord
constant_behind l at = and_then (field 64 l at) (λ v l' at'. met (record { definition = Constant v }) l' at')

abbrev flagged : ℕ → List ℕ → ℕ → Parsed SlotRecord
flagged k l at = cond (eqb k 0) (met variable_slot l at) (constant_behind l at)

module _ {b : List ℕ} {c : Cursor} where
  pub slot-stopped : {f : Refusal} → Reads (field 1) b c (Err f) → Reads slot b c (Err f)
  unfolding slot
  slot-stopped r = read-stop r flagged

  module _ {k : ℕ} {d : Cursor} (r : Reads (field 1) b c (Ok (k, d))) where
    pub slot-variable : k ≡ 0 → Reads slot b c (Ok (variable_slot, d))
    unfolding slot
    slot-variable z =
        let t : Reads (flagged k) b d (Ok (variable_slot, d)) = record { answers = rw (eq-eqb k 0 z) refl; within = r.within } in
        read-then r flagged t

    pub constant-stopped : (k ≡ 0 → ⊥) → {f : Refusal} → Reads (field 64) b d (Err f) → Reads slot b c (Err f)
    unfolding slot
    constant-stopped z {f} s =
        let u : Reads constant_behind b d (Err f) = read-stop s (λ v l' at'. met (record { definition = Constant v }) l' at') in
        let t : Reads (flagged k) b d (Err f) = record { answers = u.answers ∙ rw (ne_eqb k 0 z) refl; within = tt } in
        read-then r flagged t

    pub slot-constant : (k ≡ 0 → ⊥) → {v : ℕ} {e : Cursor} → Reads (field 64) b d (Ok (v, e)) → Reads slot b c (Ok (record { definition = Constant v }, e))
    unfolding slot
    slot-constant z {v} {e} s =
        let u : Reads constant_behind b d (Ok (record { definition = Constant v }, e)) = read-as s (λ (v : ℕ). record { definition = Constant v }) in
        let t : Reads (flagged k) b d (Ok (record { definition = Constant v }, e)) = record { answers = u.answers ∙ rw (ne_eqb k 0 z) refl; within = u.within } in
        read-then r flagged t

-- what a number is made into
abbrev pub made_of : {A : Type 0} → (ℕ → A) → ℕ → List ℕ → ℕ → Parsed A
made_of g n l at = met (g n) l at

-- a scan from its flow on, from its entity, its attribute, its value
abbrev pub scan_read : ℕ → ℕ → ℕ → ℕ → ℕ → Scan
scan_read x f e a v = record { index = index_of_code x; flow = flow_of_code f; entity = slot_numbered e; attribute = record { 0 = a }; value = slot_numbered v }

abbrev pub from_value : ℕ → ℕ → ℕ → ℕ → List ℕ → ℕ → Parsed Scan
from_value x f e a l at = and_then (field 7 l at) (λ v l' at'. met (scan_read x f e a v) l' at')

abbrev pub from_attribute : ℕ → ℕ → ℕ → List ℕ → ℕ → Parsed Scan
from_attribute x f e l at = and_then (field 64 l at) (from_value x f e)

abbrev pub from_entity : ℕ → ℕ → List ℕ → ℕ → Parsed Scan
from_entity x f l at = and_then (field 7 l at) (from_attribute x f)

abbrev pub from_flow : ℕ → List ℕ → ℕ → Parsed Scan
from_flow x l at = and_then (code l at) (from_entity x)

pub select-stopped : {b : List ℕ} {c : Cursor} {f : Refusal} → Reads (field 7) b c (Err f) → Reads select b c (Err f)
unfolding select
select-stopped r = read-stop r (λ k l' at'. met (slot_numbered k) l' at')

pub select_read : {b : List ℕ} {c : Cursor} {k : ℕ} {d : Cursor} → Reads (field 7) b c (Ok (k, d)) → Reads select b c (Ok (slot_numbered k, d))
unfolding select
select_read r = read-as r slot_numbered
