-- The kinds of an image: codes, slots, scans, selects.
use mathlib.Core.Path.{◌≡◌, refl, sym, ap, ◌∙◌}
use Prim.Native.Nat.{ℕ, zero, suc, ◌/◌, ◌^◌, ◌<◌}
use mathlib.Core.List.{List, [], ◌++◌, append_assoc, append-nil}
use mathlib.Core.Bool.{false, cond}
use native.Mathlib.Omega.{arith}
use borrow.Author.Tests.{eqb-false, ne_eqb}
use lib.Dec.{eqb}
use Rattle.std.specs.Prelude.{Ok}
use Rattle.refusal.specs.Verdict.{refuse_if}
use Rattle.refusal.proofs.Fine.{refuse-fine}
use Rattle.plan.specs.Codes.{index_code, flow_code, index_of_code, flow_of_code}
use Rattle.plan.specs.declared.Scan.{Scan}
use Rattle.plan.specs.declared.SlotRecord.{SlotRecord}
use Rattle.plan.specs.declared.SlotDefinition.{SlotDefinition}
use Rattle.plan.specs.declared.SlotDefinition.TheVariants.{Variable, Constant}
use Rattle.plan.specs.declared.Index.{Index}
use Rattle.plan.specs.declared.Index.TheVariants.{Aevt, Avet, Eavt}
use Rattle.plan.specs.declared.Flow.{Flow}
use Rattle.plan.specs.declared.Flow.TheVariants.{OutOut, InOut, InIn}
use Rattle.plan.specs.Plan.{variable_slot}
use Rattle.plan.proofs.Codes.{index-code-back, flow-code-back}
use Rattle.bits.specs.Bits.{bits}
use Rattle.image.specs.Image.{mark, definition_bits, slot_bits, scan_bits, select_bits}
use Rattle.image.specs.Read.{Parsed, met, and_then, unless_fault, field, code, slot_numbered, slot, scan, select}
use Rattle.image.specs.Fits.{DefinitionHeld, SlotHeld, ScanHeld, SelectHeld}
use Rattle.image.proofs.Codec.{Codec, codec-field, codec-then, codec-map, codec-guard, codec-none, codec-as}

-- a code
abbrev Coded : ℕ → ℕ → Type 0
Coded c b = (eqb c 3 ≡ false) × (c ≡ b)

code-end : (at c : ℕ) → Codec (λ l at'. unless_fault (refuse_if (eqb c 3) 61 (at / 8)) (met c l at')) (λ _. []) (Coded c)
code-end at c =
    codec-as _ (λ _. []) (λ _. []) (λ b. (refuse_if (eqb c 3) 61 (at / 8) ≡ Ok tt) × (c ≡ b)) (Coded c)
    (λ b h. (refuse-fine (eqb c 3) 61 (at / 8) h.0, h.1)) (λ b h. (rw h.0 refl, h.1)) (λ b h. refl)
    (codec-guard (refuse_if (eqb c 3) 61 (at / 8)) (λ l at'. met c l at') (λ _. []) (λ b. c ≡ b) (λ _. codec-none c))

code-to : (c : ℕ) → (c < 2 ^ 2) × Coded c c → c < 3
code-to c h = let k : c < 4 = h.0 in omega (arith, eqb-false c 3 h.1.0)

code-fro : (c : ℕ) → c < 3 → (c < 2 ^ 2) × Coded c c
code-fro c h = let k : c < 4 = omega arith in (k, (ne_eqb c 3 (λ (e : c ≡ 3). omega arith), refl))

pub codec-code : Codec code (bits 2) (λ c. c < 3)
unfolding code
codec-code =
    codec-as code (λ c. bits 2 c ++ []) (bits 2) (λ c. (c < 2 ^ 2) × Coded c c) (λ c. c < 3) code-to code-fro (λ c h. append-nil (bits 2 c))
    (codec-then (field 2) (bits 2) (λ c. c < 2 ^ 2) (codec-field 2) (λ at c l at'. unless_fault (refuse_if (eqb c 3) 61 (at / 8)) (met c l at')) (λ _ _. []) Coded
    (λ at c h. code-end at c) (λ c. c) (λ c b h k. sym k.1))

-- a select
pub codec-select : Codec select select_bits SelectHeld
unfolding select
codec-select =
    codec-as select select_bits select_bits (λ k. (k.0 < 2 ^ 7) × (slot_numbered k.0 ≡ k)) SelectHeld (λ k h. h.0) (λ k h. (h, refl)) (λ k h. refl)
    (codec-map (field 7) (bits 7) (λ n. n < 2 ^ 7) (codec-field 7) slot_numbered (λ k. k.0) (λ n h. refl))

-- a slot
abbrev held_constant : SlotDefinition → ℕ
held_constant Variable = 0
held_constant (Constant v) = v

abbrev constant_bits : SlotDefinition → List ℕ
constant_bits Variable = []
constant_bits (Constant v) = bits 64 v

abbrev Marked : ℕ → SlotRecord → Type 0
Marked k s = (mark s.definition ≡ k) × SlotHeld s

constant_slot : ℕ → SlotRecord
constant_slot v = record { definition = Constant v }

rest : ℕ → List ℕ → ℕ → Parsed SlotRecord
rest k l at = cond (eqb k 0) (met variable_slot l at) (and_then (field 64 l at) (λ v l'' at''. met (constant_slot v) l'' at''))

unmarked-fro : (d : SlotDefinition) → (mark d ≡ 0) × DefinitionHeld d → Variable ≡ d
unmarked-fro Variable h = refl
unmarked-fro (Constant v) h = absurd (let e : 1 ≡ 0 = h.0 in omega arith)

marked-to : (d : SlotDefinition) → (held_constant d < 2 ^ 64) × (Constant (held_constant d) ≡ d) → (mark d ≡ 1) × DefinitionHeld d
marked-to Variable h = absurd (let z : ◌≡◌ {A = ℕ} 0 1 = cc in omega arith)
marked-to (Constant v) h = (refl, h.0)

marked-fro : (d : SlotDefinition) → (mark d ≡ 1) × DefinitionHeld d → (held_constant d < 2 ^ 64) × (Constant (held_constant d) ≡ d)
marked-fro Variable h = absurd (let e : 0 ≡ 1 = h.0 in omega arith)
marked-fro (Constant v) h = (h.1, refl)

marked-same : (d : SlotDefinition) → (Constant (held_constant d) ≡ d) → bits 64 (held_constant d) ≡ constant_bits d
marked-same Variable h = absurd (let z : ◌≡◌ {A = ℕ} 0 1 = cc in omega arith)
marked-same (Constant v) h = refl

slot-end : (k : ℕ) → k < 2 ^ 1 → Codec (rest k) (λ s. constant_bits s.definition) (Marked k)
unfolding rest constant_slot
slot-end zero h =
    codec-as (rest 0) (λ _. []) (λ s. constant_bits s.definition) (λ s. variable_slot ≡ s) (Marked 0)
    (λ s e. rw (← e) (refl, tt)) (λ s e. ap (λ (d : SlotDefinition). record { definition = d }) (unmarked-fro s.definition e)) (λ s e. rw (← e) refl) (codec-none variable_slot)
slot-end (suc zero) h =
    codec-as (rest 1) (λ s. bits 64 (held_constant s.definition)) (λ s. constant_bits s.definition) (λ s. (held_constant s.definition < 2 ^ 64) × (constant_slot (held_constant s.definition) ≡ s)) (Marked 1)
    (λ s e. marked-to s.definition (e.0, ap (λ (r : SlotRecord). r.definition) e.1))
    (λ s e. let m = marked-fro s.definition e in (m.0, ap (λ (d : SlotDefinition). record { definition = d }) m.1))
    (λ s e. marked-same s.definition (ap (λ (r : SlotRecord). r.definition) e.1))
    (codec-map (field 64) (bits 64) (λ n. n < 2 ^ 64) (codec-field 64) constant_slot (λ s. held_constant s.definition) (λ v h. refl))
slot-end (suc (suc k)) h = absurd (let e : suc (suc k) < 2 = h in omega arith)

mark-lt : (d : SlotDefinition) → mark d < 2 ^ 1
mark-lt Variable = let h : 0 < 2 = omega arith in h
mark-lt (Constant v) = let h : 1 < 2 = omega arith in h

mark-bits : (d : SlotDefinition) → bits 1 (mark d) ++ constant_bits d ≡ definition_bits d
unfolding bits
mark-bits Variable = refl
mark-bits (Constant v) = refl

pub codec-slot : Codec slot slot_bits SlotHeld
unfolding slot rest constant_slot
codec-slot =
    codec-as slot (λ s. bits 1 (mark s.definition) ++ constant_bits s.definition) slot_bits (λ s. (mark s.definition < 2 ^ 1) × Marked (mark s.definition) s) SlotHeld
    (λ s h. h.1.1) (λ s h. (mark-lt s.definition, (refl, h))) (λ s h. mark-bits s.definition)
    (codec-then (field 1) (bits 1) (λ n. n < 2 ^ 1) (codec-field 1) (λ at k. rest k) (λ k s. constant_bits s.definition) Marked
    (λ at k h. slot-end k h) (λ s. mark s.definition) (λ k s h m. m.0))

-- a scan
abbrev scan_at : ℕ → ℕ → ℕ → ℕ → ℕ → Scan
scan_at x f e a v = record { index = index_of_code x; flow = flow_of_code f; entity = slot_numbered e; attribute = record { 0 = a }; value = slot_numbered v }

index_back : (x : ℕ) → x < 3 → index_code (index_of_code x) ≡ x
index_back zero h = refl
index_back (suc zero) h = refl
index_back (suc (suc zero)) h = refl
index_back (suc (suc (suc x))) h = absurd (omega arith)

index-lt : (i : Index) → index_code i < 3
index-lt Aevt = omega arith
index-lt Avet = omega arith
index-lt Eavt = omega arith

flow-back : (x : ℕ) → x < 3 → flow_code (flow_of_code x) ≡ x
flow-back zero h = refl
flow-back (suc zero) h = refl
flow-back (suc (suc zero)) h = refl
flow-back (suc (suc (suc x))) h = absurd (omega arith)

flow-lt : (f : Flow) → flow_code f < 3
flow-lt OutOut = omega arith
flow-lt InOut = omega arith
flow-lt InIn = omega arith

abbrev Fit5 : ℕ → ℕ → ℕ → ℕ → Scan → Type 0
Fit5 x f e a s = (s.value.0 < 2 ^ 7) × (scan_at x f e a s.value.0 ≡ s)

abbrev Fit4 : ℕ → ℕ → ℕ → Scan → Type 0
Fit4 x f e s = (s.attribute.0 < 2 ^ 64) × Fit5 x f e s.attribute.0 s

abbrev Fit3 : ℕ → ℕ → Scan → Type 0
Fit3 x f s = (s.entity.0 < 2 ^ 7) × Fit4 x f s.entity.0 s

abbrev Fit2 : ℕ → Scan → Type 0
Fit2 x s = (flow_code s.flow < 3) × Fit3 x (flow_code s.flow) s

abbrev Fit1 : Scan → Type 0
Fit1 s = (index_code s.index < 3) × Fit2 (index_code s.index) s

abbrev part5 : ℕ → ℕ → ℕ → ℕ → List ℕ → ℕ → Parsed Scan
part5 x f e a l at = and_then (field 7 l at) (λ v l at. met (scan_at x f e a v) l at)

abbrev part4 : ℕ → ℕ → ℕ → List ℕ → ℕ → Parsed Scan
part4 x f e l at = and_then (field 64 l at) (part5 x f e)

abbrev part3 : ℕ → ℕ → List ℕ → ℕ → Parsed Scan
part3 x f l at = and_then (field 7 l at) (part4 x f)

abbrev part2 : ℕ → List ℕ → ℕ → Parsed Scan
part2 x l at = and_then (code l at) (part3 x)

codec5 : (x f e a : ℕ) → Codec (part5 x f e a) (λ s. bits 7 s.value.0) (Fit5 x f e a)
codec5 x f e a = codec-map (field 7) (bits 7) (λ n. n < 2 ^ 7) (codec-field 7) (scan_at x f e a) (λ s. s.value.0) (λ v h. refl)

codec4 : (x f e : ℕ) → Codec (part4 x f e) (λ s. bits 64 s.attribute.0 ++ bits 7 s.value.0) (Fit4 x f e)
codec4 x f e =
    codec-then (field 64) (bits 64) (λ n. n < 2 ^ 64) (codec-field 64) (λ at. part5 x f e) (λ a s. bits 7 s.value.0) (Fit5 x f e) (λ at a h. codec5 x f e a)
    (λ s. s.attribute.0) (λ a s h k. sym (ap (λ (s : Scan). s.attribute.0) k.1))

codec3 : (x f : ℕ) → Codec (part3 x f) (λ s. bits 7 s.entity.0 ++ (bits 64 s.attribute.0 ++ bits 7 s.value.0)) (Fit3 x f)
codec3 x f =
    codec-then (field 7) (bits 7) (λ n. n < 2 ^ 7) (codec-field 7) (λ at. part4 x f) (λ e s. bits 64 s.attribute.0 ++ bits 7 s.value.0) (Fit4 x f) (λ at e h. codec4 x f e)
    (λ s. s.entity.0) (λ e s h k. sym (ap (λ (s : Scan). s.entity.0) k.1.1))

codec2 : (x : ℕ) → Codec (part2 x) (λ s. bits 2 (flow_code s.flow) ++ (bits 7 s.entity.0 ++ (bits 64 s.attribute.0 ++ bits 7 s.value.0))) (Fit2 x)
codec2 x =
    codec-then code (bits 2) (λ n. n < 3) codec-code (λ at. part3 x) (λ f s. bits 7 s.entity.0 ++ (bits 64 s.attribute.0 ++ bits 7 s.value.0)) (Fit3 x) (λ at f h. codec3 x f)
    (λ s. flow_code s.flow) (λ f s h k. sym (ap (λ (s : Scan). flow_code s.flow) k.1.1.1) ∙ flow-back f h)

scan-fro : (s : Scan) → ScanHeld s → Fit1 s
scan-fro s h = (index-lt s.index, (flow-lt s.flow, (h.entity, (h.attribute, (h.value, rw (index-code-back s.index, flow-code-back s.flow) refl)))))

pub codec-scan : Codec scan scan_bits ScanHeld
unfolding scan
codec-scan =
    codec-as scan (λ s. bits 2 (index_code s.index) ++ (bits 2 (flow_code s.flow) ++ (bits 7 s.entity.0 ++ (bits 64 s.attribute.0 ++ bits 7 s.value.0)))) scan_bits Fit1 ScanHeld
    (λ s h. record { entity = h.1.1.0; attribute = h.1.1.1.0; value = h.1.1.1.1.0 }) scan-fro
    (λ s h. simp append_assoc)
    (codec-then code (bits 2) (λ n. n < 3) codec-code (λ at. part2) (λ x s. bits 2 (flow_code s.flow) ++ (bits 7 s.entity.0 ++ (bits 64 s.attribute.0 ++ bits 7 s.value.0))) Fit2
    (λ at x h. codec2 x) (λ s. index_code s.index) (λ x s h k. sym (ap (λ (s : Scan). index_code s.index) k.1.1.1.1) ∙ index_back x h))
