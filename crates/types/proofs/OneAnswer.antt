-- No second answer fits the promise of `infer_types`.
use mathlib.Core.Path.{◌≡◌}
use Prim.Native.Nat.{ℕ}
use mathlib.Core.List.{List}
use Rattle.refusal.proofs.OneAnswer.{one_answer}
use Rattle.query.specs.declared.Query.{Query}
use Rattle.types.specs.Types.{inferred_of}
use Rattle.std.specs.Prelude.{Result}
use Rattle.refusal.specs.Verdict.{Refusal, answer}

pub types-one : (q : Query) (table : List ℕ) (r r' : Result (List ℕ) Refusal) → r ≡ answer (inferred_of q table).verdict (inferred_of q table).types → r' ≡ answer (inferred_of q table).verdict (inferred_of q table).types → r ≡ r'
types-one q table r r' = one_answer
