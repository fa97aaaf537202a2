-- An index and a flow are read back from their numbers.
use mathlib.Core.Path.{◌≡◌, refl, sym, ap, ◌∙◌}
use Prim.Native.Nat.{ℕ, zero, suc, ◌≤◌}
use native.Mathlib.Omega.{arith}
use Rattle.plan.specs.declared.Index.{Index}
use Rattle.plan.specs.declared.Index.TheVariants.{Aevt, Avet, Eavt}
use Rattle.plan.specs.declared.Flow.{Flow}
use Rattle.plan.specs.declared.Flow.TheVariants.{OutOut, InOut, InIn}
use Rattle.plan.specs.Codes.{index_code, flow_code, index_of_code, flow_of_code}

pub index-code-back : (x : Index) → index_of_code (index_code x) ≡ x
index-code-back Aevt = refl
index-code-back Avet = refl
index-code-back Eavt = refl

pub flow-code-back : (f : Flow) → flow_of_code (flow_code f) ≡ f
flow-code-back OutOut = refl
flow-code-back InOut = refl
flow-code-back InIn = refl

-- two indexes with one number are the same, and two flows
pub index-code-same : (x y : Index) → index_code x ≡ index_code y → x ≡ y
index-code-same x y e = sym (index-code-back x) ∙ ap index_of_code e ∙ index-code-back y

pub flow-code-same : (f g : Flow) → flow_code f ≡ flow_code g → f ≡ g
flow-code-same f g e = sym (flow-code-back f) ∙ ap flow_of_code e ∙ flow-code-back g

-- no number is past the last
pub index-code-few : (x : Index) → index_code x ≤ 2
index-code-few Aevt = omega arith
index-code-few Avet = omega arith
index-code-few Eavt = omega arith

pub flow-code-few : (f : Flow) → flow_code f ≤ 2
flow-code-few OutOut = omega arith
flow-code-few InOut = omega arith
flow-code-few InIn = omega arith

-- a number that is neither the first's nor the second's is read as the third
pub third-index : (n : ℕ) → (n ≡ 0 → ⊥) → (n ≡ 1 → ⊥) → index_of_code n ≡ Eavt
third-index zero a b = absurd (a refl)
third-index (suc zero) a b = absurd (b refl)
third-index (suc (suc n)) a b = refl
