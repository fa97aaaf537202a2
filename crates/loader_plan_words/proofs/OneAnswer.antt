-- No second answer fits the promises of `words_of_plan` and `write_indexes`.
use mathlib.Core.Path.{◌≡◌}
use mathlib.Core.List.{List}
use Prim.Native.Nat.{ℕ}
use lib.ListN.{take}
use Rattle.refusal.proofs.OneAnswer.{one_answer}
use Rattle.plan.specs.declared.Scan.{Scan}
use Rattle.plan.specs.declared.Plan.{Plan}
use Rattle.loader_plan_words.specs.Write.{words_of_plan, with_indexes}

pub words-of-plan-one : (p : Plan) (r r' : List ℕ) → r ≡ words_of_plan p → r' ≡ words_of_plan p → r ≡ r'
words-of-plan-one p r r' = one_answer

pub write-indexes-one : (l : List Scan) (k : ℕ) (before r r' : List ℕ) → r ≡ with_indexes (take k l) 0 before → r' ≡ with_indexes (take k l) 0 before → r ≡ r'
write-indexes-one l k before r r' = one_answer
