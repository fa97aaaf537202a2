-- An array with a count: the first elements of a list, and past them one that stands for none.
use Rattle.std.specs.Prelude.{ℕ, zero, suc, List, [], ◌∷◌}

-- n elements: the first n of l, and z past these
unfoldable pub padded : {A : Type 0} → A → ℕ → List A → List A
padded z zero l = []
padded z (suc n) [] = z ∷ padded z n []
padded z (suc n) (x ∷ xs) = x ∷ padded z n xs
