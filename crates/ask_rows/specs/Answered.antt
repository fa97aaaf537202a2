-- What a call says: whether it is refused, and what it answers where it is not.
use Rattle.std.specs.Prelude.{ℕ, Bool}
use Rattle.refusal.specs.Verdict.{Verdict}

pub record Window : Type 0 where
  pub verdict : Verdict
  pub length : ℕ
  pub last : Bool
  pub from : ℕ
  pub left : ℕ
