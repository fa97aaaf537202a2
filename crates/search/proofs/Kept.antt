-- The best of the candidates, kept one by one, is the first of least cost.
use mathlib.Core.Path.{◌≡◌, refl, ap, ◌∙◌}
use mathlib.Core.List.{List, [], ◌∷◌, ◌++◌}
use mathlib.Core.Bool.{Bool, true, false, cond}
use lib.Dec.{ltb}
use Rattle.std.specs.Prelude.{Option, Some, None}
use Rattle.search.specs.declared.Best.{Best}
use Rattle.search.specs.Search.{Candidate, least_from}
use Rattle.search.specs.Best.{kept, is_better, better, best_from}

-- after some and then others
pub best-append : (b : Option Best) (cs ds : List Candidate) → best_from b (cs ++ ds) ≡ best_from (best_from b cs) ds
unfolding best_from
best-append b [] ds = refl
best-append b (c ∷ cs) ds = best-append (better b (kept c)) cs ds

-- of two candidates
kept_either : (t : Bool) (c d : Candidate) → cond t (Some (kept d)) (Some (kept c)) ≡ Some (kept (cond t d c))
kept_either true c d = refl
kept_either false c d = refl

best-kept : (c : Candidate) (ds : List Candidate) → best_from (Some (kept c)) ds ≡ Some (kept (least_from c ds))
unfolding best_from least_from
best-kept c [] = refl
best-kept c (d ∷ ds) =
    let t = ltb d.cost c.cost in
    ap (λ (b : Option Best). best_from b ds) (kept_either t c d) ∙ best-kept (cond t d c) ds

-- from none on
pub best-first : (c : Candidate) (ds : List Candidate) → best_from None (c ∷ ds) ≡ Some (kept (least_from c ds))
unfolding best_from
best-first c ds = best-kept c ds

pub best-of-none : best_from None [] ≡ None
unfolding best_from
best-of-none = refl

-- what is kept of the best so far and another, by a test that says whether the other takes its place
pub better-kept : (b : Option Best) (n : Best) (t : Bool) (after : Option Best) → t ≡ is_better b n.cost → after ≡ cond t (Some n) b → after ≡ better b n
better-kept b n t after e f = f ∙ ap (λ (u : Bool). cond u (Some n) b) e
