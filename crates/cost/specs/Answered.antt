-- What a call says: whether it is refused, and what it answers where it is not.
use Rattle.std.specs.Prelude.{ℕ}
use Rattle.refusal.specs.Verdict.{Verdict}

-- the cost; 0 where it is refused
pub record Costed : Type 0 where
  pub verdict : Verdict
  pub cost : ℕ
