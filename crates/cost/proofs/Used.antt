-- Whether an earlier scan used a key or an index, as a search of the earlier scans says it.
use Rattle.std.specs.Prelude.{◌≡◌, ◌||◌, List, [], ◌∷◌, refl}
use Rattle.std.proofs.Common.{ap}
use Rattle.std.specs.List.{list_any}
use Rattle.plan.specs.declared.Scan.{Scan}
use Rattle.plan.specs.declared.Index.{Index}
use Rattle.plan.specs.Plan.{same_index}
use Rattle.cost.specs.Cost.{same_key, index_used, key_used}

pub key-searched : (s : Scan) (l : List Scan) → list_any (same_key s) l ≡ key_used s l
unfolding key_used
key-searched s [] = refl
key-searched s (b ∷ bs) = ap (λ t. same_key s b || t) (key-searched s bs)

pub index-searched : (x : Index) (l : List Scan) → list_any (λ (b : Scan). same_index x b.index) l ≡ index_used x l
unfolding index_used
index-searched x [] = refl
index-searched x (b ∷ bs) = ap (λ t. same_index x b.index || t) (index-searched x bs)
