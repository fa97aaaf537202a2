-- Numbers one after the other.
use Rattle.std.specs.Prelude.{ℕ, zero, suc, ◌+◌, List, [], ◌∷◌}

-- i, i + 1, ..: n of them
unfoldable pub span : ℕ → ℕ → List ℕ
span i zero = []
span i (suc n) = i ∷ span (i + 1) n
