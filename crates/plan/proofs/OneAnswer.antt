-- No second answer fits the promises of this crate.
use mathlib.Core.Path.{◌≡◌, sym, ap, ◌∙◌}
use Prim.Native.Nat.{ℕ, ◌≤◌}
use native.Mathlib.Omega.{arith}
use mathlib.Core.List.{List}
use mathlib.Core.Bool.{Bool}
use Rattle.refusal.specs.Verdict.{Verdict}
use Rattle.refusal.proofs.OneAnswer.{one_answer}
use Rattle.plan.specs.declared.Slot.{Slot}
use Rattle.plan.specs.declared.Scan.{Scan}
use Rattle.plan.specs.declared.Plan.{Plan}
use Rattle.plan.specs.declared.Index.{Index}
use Rattle.plan.specs.declared.Flow.{Flow}
use Rattle.plan.specs.declared.EntityValueFlow.{EntityValueFlow}
use Rattle.plan.specs.declared.SlotDefinition.{SlotDefinition}
use Rattle.std.specs.Prelude.{Result, Ok, Err}
use Rattle.plan.specs.declared.UnknownCode.{UnknownCode}
use Rattle.plan.specs.Codes.{index_code, flow_code, index_of_code, flow_of_code, Decodes}
use Rattle.plan.proofs.Codes.{index-code-same, flow-code-same, index-code-few, flow-code-few}
use Rattle.plan.specs.Plan.{slots_in_order, entity_value_flow, out_out_eavt, is_constant, empty_plan, counts_fault, out_out_fault, scan_flows_fault, flows_fault}

pub slots-one : (s : Scan) (r r' : List Slot) → r ≡ slots_in_order s → r' ≡ slots_in_order s → r ≡ r'
slots-one s r r' = one_answer

pub flow-one : (s : Scan) (r r' : EntityValueFlow) → r ≡ entity_value_flow s.flow s.index → r' ≡ entity_value_flow s.flow s.index → r ≡ r'
flow-one s r r' = one_answer

pub out-out-one : (s : Scan) (r r' : Bool) → r ≡ out_out_eavt s.flow s.index → r' ≡ out_out_eavt s.flow s.index → r ≡ r'
out-out-one s r r' = one_answer

pub constant-one : (d : SlotDefinition) (r r' : Bool) → r ≡ is_constant d → r' ≡ is_constant d → r ≡ r'
constant-one d r r' = one_answer

pub empty-one : (r r' : Plan) → r ≡ empty_plan → r' ≡ empty_plan → r ≡ r'
empty-one r r' = one_answer

pub index-code-one : (x : Index) (r r' : ℕ) → r ≡ index_code x → r' ≡ index_code x → r ≡ r'
index-code-one x r r' = one_answer

pub flow-code-one : (f : Flow) (r r' : ℕ) → r ≡ flow_code f → r' ≡ flow_code f → r ≡ r'
flow-code-one f r r' = one_answer

pub index-of-code-one : (n : ℕ) (r r' : Index) → r ≡ index_of_code n → r' ≡ index_of_code n → r ≡ r'
index-of-code-one n r r' = one_answer

pub flow-of-code-one : (n : ℕ) (r r' : Flow) → r ≡ flow_of_code n → r' ≡ flow_of_code n → r ≡ r'
flow-of-code-one n r r' = one_answer

-- a number is read in one way, where no two have one number and all numbers are within the last
decodes-one : {A : Type 0} (number : A → ℕ) → ((x y : A) → number x ≡ number y → x ≡ y) → ((x : A) → number x ≤ 2) → (n : ℕ) (r r' : Result A UnknownCode) → Decodes number n r → Decodes number n r' → r ≡ r'
decodes-one number same few n (Ok x) (Ok y) d d' = ap Ok (same x y (d ∙ sym d'))
decodes-one number same few n (Ok x) (Err e) d d' = absurd (omega (arith, few x, d, d'.1))
decodes-one number same few n (Err e) (Ok y) d d' = absurd (omega (arith, few y, d', d.1))
decodes-one number same few n (Err e) (Err e') d d' = ap (λ (k : ℕ). Err (record { 0 = k })) (d.0 ∙ sym d'.0)

pub index-from-one : (n : ℕ) (r r' : Result Index UnknownCode) → Decodes index_code n r → Decodes index_code n r' → r ≡ r'
index-from-one = decodes-one index_code index-code-same index-code-few

pub flow-from-one : (n : ℕ) (r r' : Result Flow UnknownCode) → Decodes flow_code n r → Decodes flow_code n r' → r ≡ r'
flow-from-one = decodes-one flow_code flow-code-same flow-code-few

pub counts-one : (k n m : ℕ) (r r' : Verdict) → r ≡ counts_fault k n m → r' ≡ counts_fault k n m → r ≡ r'
counts-one k n m r r' = one_answer

pub scan-flows-one : (l : List Scan) (k : ℕ) (r r' : Verdict) → r ≡ scan_flows_fault l k → r' ≡ scan_flows_fault l k → r ≡ r'
scan-flows-one l k r r' = one_answer

pub flows-of-one : (l : List Scan) (r r' : Verdict) → r ≡ out_out_fault l 0 → r' ≡ out_out_fault l 0 → r ≡ r'
flows-of-one l r r' = one_answer

pub flows-one : (p : Plan) (r r' : Verdict) → r ≡ flows_fault p → r' ≡ flows_fault p → r ≡ r'
flows-one p r r' = one_answer
