-- A list by its places.
use Rattle.std.specs.Prelude.{ℕ, zero, suc, List, [], ◌∷◌, ◌++◌}

-- f 0, f 1 and so on, n of them
unfoldable pub tabled : {A : Type 0} → (ℕ → A) → ℕ → List A
tabled f zero = []
tabled f (suc n) = tabled f n ++ (f n ∷ [])
