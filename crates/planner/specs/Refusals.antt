-- 01, "Refusal numbers": planning gives 10 to 15, and then 16.
use Rattle.std.specs.Prelude.{ℕ, ◌+◌, List, [], ◌∷◌, ◌++◌, Bool, not, ◌&&◌}
use Rattle.refusal.specs.Verdict.{Verdict}
use Rattle.std.specs.Prelude.{Ok}
use Rattle.refusal.specs.Verdict.{refuse_if, or_else}
use Rattle.query.specs.declared.Statement.{Statement}
use Rattle.query.specs.declared.Query.{Query}
use Rattle.query.specs.Query.{statements_of, is_variable, named}
use Rattle.query_check.specs.Refusals.{query_fault}

-- entity and value are one variable that no statement before names
abbrev pub binds_twice : List Statement → Statement → Bool
binds_twice before s = is_variable s.value s.entity.0 && not (named before s.entity.0)

-- 16 at the lowest such statement from number i on
unfoldable pub bound_twice_fault : List Statement → List Statement → ℕ → Verdict
bound_twice_fault before [] i = Ok tt
bound_twice_fault before (s ∷ ss) i = or_else (refuse_if (binds_twice before s) 16 i) (bound_twice_fault (before ++ (s ∷ [])) ss (i + 1))

-- 10 to 15, and 16 in the given order
unfoldable pub plan_fault : Query → Verdict
plan_fault q = or_else (query_fault q) (bound_twice_fault [] (statements_of q) 0)
