-- What an answer says of its verdict.
use mathlib.Core.Path.{◌≡◌, refl}
use Rattle.std.specs.Prelude.{Ok, Err}
use Rattle.refusal.specs.Verdict.{Refusal, Verdict, answer}

module _ {A : Type 0} where
  -- a refusal is the verdict's
  pub answer-refused : (v : Verdict) (a : A) (r : Refusal) → answer v a ≡ Err r → v ≡ Err r
  answer-refused (Ok tt) a r e = cc
  answer-refused (Err s) a r e = cc

  -- and a value is there only where nothing is refused, and then it is that
  pub answer-fine : (v : Verdict) (a x : A) → answer v a ≡ Ok x → (v ≡ Ok tt) × (a ≡ x)
  answer-fine (Ok tt) a x e = (refl, cc)
  answer-fine (Err s) a x e = absurd cc
