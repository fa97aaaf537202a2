-- The number of an index and of a flow, wherever these stand as words.
use Rattle.std.specs.Prelude.{◌≡◌, ℕ, zero, suc, ◌<◌, Result, MatchResult}
use Rattle.plan.specs.declared.Index.{Index}
use Rattle.plan.specs.declared.Index.TheVariants.{Aevt, Avet, Eavt}
use Rattle.plan.specs.declared.Flow.{Flow}
use Rattle.plan.specs.declared.Flow.TheVariants.{OutOut, InOut, InIn}
use Rattle.plan.specs.declared.UnknownCode.{UnknownCode}

abbrev pub index_code : Index → ℕ
index_code Aevt = 0
index_code Avet = 1
index_code Eavt = 2

-- of a flow: how many of a scan's two slots are read
abbrev pub flow_code : Flow → ℕ
flow_code OutOut = 0
flow_code InOut = 1
flow_code InIn = 2

-- the other way round; a number past the last is read as the last
abbrev pub index_of_code : ℕ → Index
index_of_code zero = Aevt
index_of_code (suc zero) = Avet
index_of_code (suc (suc n)) = Eavt

abbrev pub flow_of_code : ℕ → Flow
flow_of_code zero = OutOut
flow_of_code (suc zero) = InOut
flow_of_code (suc (suc n)) = InIn

-- the index, or the flow, that has this number; or the number, where none has it, being past the last
abbrev pub Decodes : {A : Type 0} → (A → ℕ) → ℕ → Result A UnknownCode → Type 0
Decodes number code r = MatchResult r (λ x. number x ≡ code) (λ e. (e.0 ≡ code) × (2 < code))
