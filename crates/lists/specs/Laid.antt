-- The words or bits of a list's elements.
use Rattle.std.specs.Prelude.{ℕ, List, [], ◌∷◌, ◌++◌}

-- what f makes of each element, one after the other
unfoldable pub laid : {A : Type 0} → (A → List ℕ) → List A → List ℕ
laid f [] = []
laid f (x ∷ xs) = f x ++ laid f xs
