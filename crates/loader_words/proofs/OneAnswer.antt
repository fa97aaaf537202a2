-- No second answer fits the promises of this crate.
use mathlib.Core.Path.{◌≡◌}
use mathlib.Core.List.{List}
use Prim.Native.Nat.{ℕ}
use Rattle.refusal.proofs.OneAnswer.{one_answer}
use Rattle.plan.specs.declared.Plan.{Plan}
use Rattle.query.specs.declared.Query.{Query}
use Rattle.loader_words.specs.Words.{plan_of_words, query_of_words}

pub read-plan-one : (ws : List ℕ) (r r' : Plan) → r ≡ plan_of_words ws → r' ≡ plan_of_words ws → r ≡ r'
read-plan-one ws r r' = one_answer

pub read-query-one : (ws : List ℕ) (r r' : Query) → r ≡ query_of_words ws → r' ≡ query_of_words ws → r ≡ r'
read-query-one ws r r' = one_answer
