-- What a call says: whether it is refused, and what it answers where it is not.
use Rattle.std.specs.Prelude.{ℕ}
use Rattle.refusal.specs.Verdict.{Verdict}

-- how long the text is; 0 where it is refused
pub record Formatted : Type 0 where
  pub verdict : Verdict
  pub length : ℕ
