-- No second answer fits the promises of this crate.
use mathlib.Core.Path.{◌≡◌}
use Prim.Native.Nat.{ℕ}
use mathlib.Core.List.{List}
use Rattle.refusal.proofs.OneAnswer.{one_answer}
use Rattle.query.specs.declared.Var.{Var}
use Rattle.query.specs.declared.Statement.{Statement}
use Rattle.query.specs.declared.Statements.{Statements}
use Rattle.query.specs.declared.Selects.{Selects}
use Rattle.query.specs.declared.Query.{Query}
use Rattle.planner.specs.Planning.{plan_of}
use Rattle.planner_lent.specs.Lent.{read_statements, read_selects, plan_lent}
use Rattle.std.specs.Prelude.{Result}
use Rattle.refusal.specs.Verdict.{Refusal, answer}
use Rattle.plan.specs.declared.Plan.{Plan}

pub read-statements-one : (ss : List Statement) (r r' : Statements) → r ≡ read_statements ss → r' ≡ read_statements ss → r ≡ r'
read-statements-one ss r r' = one_answer

pub read-selects-one : (vs : List Var) (r r' : Selects) → r ≡ read_selects vs → r' ≡ read_selects vs → r ≡ r'
read-selects-one vs r r' = one_answer

-- `plan`
pub plan-one : (n : ℕ) (ss : List Statement) (vs : List Var) (r r' : Result Plan Refusal) → r ≡ answer (plan_lent n ss vs).verdict (plan_lent n ss vs).plan → r' ≡ answer (plan_lent n ss vs).verdict (plan_lent n ss vs).plan → r ≡ r'
plan-one n ss vs r r' = one_answer

pub plan-query-one : (q : Query) (r r' : Result Plan Refusal) → r ≡ answer (plan_of q).verdict (plan_of q).plan → r' ≡ answer (plan_of q).verdict (plan_of q).plan → r ≡ r'
plan-query-one q r r' = one_answer
