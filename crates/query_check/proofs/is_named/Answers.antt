-- What `any` answers of `names` is `named`.
use mathlib.Core.Path.{◌≡◌, refl, ◌∙◌}
use mathlib.Core.List.{List, [], ◌∷◌}
use borrow.Author.Rules.{rules}
use Prim.Native.Nat.{ℕ}
use Rattle.std.proofs.Common.{tests}
use Rattle.std.specs.List.{list_any}
use Rattle.std.proofs.lemmas.Iterator.{YieldsList-from_slice}
use Rattle.std.proofs.lemmas.Iterator.Search.{any_from_yields_List}
use Rattle.query.specs.declared.Statement.{Statement}
use Rattle.query.specs.Query.{names, named}
use Rattle.query_check.proofs.is_named.Goals as goal

any-named : (v : ℕ) (ss : List Statement) → list_any (λ s. names s v) ss ≡ named ss v
unfolding named
any-named v [] = refl
any-named v (s ∷ ss) = rw (any-named v ss) refl

pub returns : goal.returns
returns c =
    any_from_yields_List (λ s. names s c.args.v.0) _ _ _ c.any.ensures.ran (YieldsList-from_slice c.args.statements.now cc) (λ s b q k. search (rules, tests)) ∙
    any-named c.args.v.0 c.args.statements.now
