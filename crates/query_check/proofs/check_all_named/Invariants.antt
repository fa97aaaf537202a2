use Rattle.refusal.specs.Verdict.{refuse_if}
use Rattle.refusal.proofs.First.{Walked}
use Rattle.std.proofs.Common.{ℕ, not}
use Rattle.lists.specs.Span.{span}
use Rattle.query.specs.Query.{named}
use Rattle.query_check.proofs.check_all_named.Given as goal

-- each of the variables so far is named
abbrev pub invariant-loop-v : goal.invariant-loop-v
invariant-loop-v l = Walked (λ j (u : ℕ). refuse_if (not (named l.statements u)) 15 j) (span 0 l.variables) l.variables 0 l.v l.v
