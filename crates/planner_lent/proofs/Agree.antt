-- Planning a query that is lent and planning one by value agree: planning reads a query only through its statements, its selects and
-- its counts, and what is read of slices that fit has these. Of too many statements the count alone is read, and that is refusal 10.
use mathlib.Core.Path.{◌≡◌, refl, sym, ◌∙◌}
use Prim.Native.Nat.{ℕ, ◌≤◌, ◌<◌}
use mathlib.Core.List.{List, []}
use borrow.Author.Tests.{lt-ltb}
use lib.ListN.{length}
use Rattle.capacity.specs.Capacity.{max_statements, max_selects}
use Rattle.std.specs.Prelude.{Ok}
use Rattle.refusal.specs.Verdict.{refused, or_else, unless}
use Rattle.lists.proofs.Padded.{padded-front}
use Rattle.query.specs.declared.Var.{Var}
use Rattle.query.specs.declared.Statement.{Statement}
use Rattle.query.specs.declared.Query.{Query}
use Rattle.query.specs.Query.{statements_of, selects_of, zero_var, zero_statement}
use Rattle.query_check.specs.Refusals.{capacity_fault, variables_fault, query_fault}
use Rattle.plan.specs.declared.Plan.{Plan}
use Rattle.plan.specs.Plan.{empty_plan}
use Rattle.planner.specs.Answered.{Planned}
use Rattle.planner.specs.Refusals.{bound_twice_fault, plan_fault}
use Rattle.planner.specs.Planning.{plan_for, plan_of}
use Rattle.planner_lent.specs.Lent.{read_statements, read_selects, query_of, plan_lent}

-- the query that is read
abbrev read_query : ℕ → List Statement → List Var → Query
read_query n ss vs = query_of n (read_statements ss) (read_selects vs)

pub statements-read : (n : ℕ) (ss : List Statement) (vs : List Var) → length ss ≤ max_statements → statements_of (read_query n ss vs) ≡ ss
statements-read n ss vs h = padded-front zero_statement max_statements ss h

pub selects-read : (n : ℕ) (ss : List Statement) (vs : List Var) → length vs ≤ max_selects → selects_of (read_query n ss vs) ≡ vs
selects-read n ss vs h = padded-front zero_var max_selects vs h

-- queries of as many variables and statements, and of the same selects, have the same plan of any statements
pub plan-alike : (q r : Query) → q.variable_count ≡ r.variable_count → q.where_statements.count ≡ r.where_statements.count
    → q.select.count ≡ r.select.count → selects_of q ≡ selects_of r → plan_for q ≡ plan_for r
unfolding plan_for
plan-alike q r k c d v = λ i ss. alike ss i
  where
    alike : (ss : List Statement) → plan_for q ss ≡ plan_for r ss
    alike ss = rw (k, c, v, d)

-- planning, of the variable count, the count of statements, the statements, the count of selects, the selects and the plan of statements
abbrev plan_parts : ℕ → ℕ → List Statement → ℕ → List Var → (List Statement → Plan) → Planned
plan_parts n statements ss selects vs planOn =
    unless (or_else (or_else (capacity_fault n statements ss selects) (variables_fault n statements ss vs)) (bound_twice_fault [] ss 0))
    (λ v. record { verdict = v; plan = empty_plan }) (record { verdict = Ok tt; plan = planOn ss })

plan-parts : (q : Query)
    → plan_of q ≡ plan_parts q.variable_count q.where_statements.count (statements_of q) q.select.count (selects_of q) (plan_for q)
unfolding plan_of plan_fault query_fault
plan-parts q = refl

-- any query by value that has these statements and selects is planned as they are where they are lent
pub lent-agrees : (n : ℕ) (ss : List Statement) (vs : List Var) → length ss ≤ max_statements → length vs ≤ max_selects → (q : Query) → q.variable_count ≡ n
    → q.where_statements.count ≡ length ss → statements_of q ≡ ss → q.select.count ≡ length vs → selects_of q ≡ vs → plan_of q ≡ plan_lent n ss vs
lent-agrees n ss vs few few' q k c s d v =
    let r = read_query n ss vs in
    let p = plan-alike q r k c d (v ∙ sym (selects-read n ss vs few')) in
    (plan-parts q ∙ (λ i. plan_parts (k i) (c i) (s i) (d i) (v i) (p i))) ∙
    sym (plan-parts r ∙ (λ i. plan_parts n (length ss) (statements-read n ss vs few i) (length vs) (selects-read n ss vs few' i) (plan_for r)))

-- too many statements
pub lent-refused : (n : ℕ) (ss : List Statement) (vs : List Var) → max_statements < length ss → plan_lent n ss vs ≡ record { verdict = refused 10 0; plan = empty_plan }
unfolding capacity_fault
lent-refused n ss vs h = plan-parts (read_query n ss vs) ∙ rw (lt-ltb max_statements (length ss) h)
