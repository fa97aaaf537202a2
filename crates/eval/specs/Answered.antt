-- What a call says: whether it is refused, and what it answers where it is not.
use Rattle.std.specs.Prelude.{ℕ, Bool}
use Rattle.refusal.specs.Verdict.{Verdict}

-- how many rows are shown, and whether more follow; where it is refused, none and not
pub record Evaluated : Type 0 where
  pub verdict : Verdict
  pub count : ℕ
  pub more : Bool
