-- Laws of verdicts: what it says that one is fine, and how they combine.
use mathlib.Core.Path.{◌≡◌, refl}
use Prim.Native.Nat.{ℕ}
use mathlib.Core.Bool.{Bool, true, false}
use Rattle.refusal.specs.Verdict.{Verdict}
use Rattle.std.specs.Prelude.{Ok, Err}
use Rattle.refusal.specs.Verdict.{refuse_if, or_else}

-- a refusal's test that does not hold
pub refuse-fine : (t : Bool) (n p : ℕ) → refuse_if t n p ≡ Ok tt → t ≡ false
refuse-fine true n p e = cc
refuse-fine false n p e = refl

-- the first refusal of two is none where neither is one
pub or-fine : (a b : Verdict) → or_else a b ≡ Ok tt → (a ≡ Ok tt) × (b ≡ Ok tt)
or-fine (Ok tt) b e = (refl, e)
or-fine (Err r) b e = (e, cc)

-- three verdicts, however they are grouped
pub or-else-assoc : (a b c : Verdict) → or_else (or_else a b) c ≡ or_else a (or_else b c)
or-else-assoc (Ok tt) b c = refl
or-else-assoc (Err r) b c = refl
