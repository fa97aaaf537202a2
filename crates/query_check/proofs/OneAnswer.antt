-- No second answer fits the promises of this crate.
use mathlib.Core.Path.{◌≡◌}
use Prim.Native.Nat.{ℕ}
use Rattle.refusal.specs.Verdict.{Verdict}
use Rattle.refusal.proofs.OneAnswer.{one_answer}
use Rattle.query.specs.declared.QueryValue.{QueryValue}
use Rattle.query.specs.declared.Query.{Query}
use Rattle.query_check.specs.Refusals.{constants_in, query_fault}

pub query-one : (q : Query) (r r' : Verdict) → r ≡ query_fault q → r' ≡ query_fault q → r ≡ r'
query-one q r r' = one_answer

pub constants-one : (v : QueryValue) (r r' : ℕ) → r ≡ constants_in v → r' ≡ constants_in v → r ≡ r'
constants-one v r r' = one_answer
