-- 01, "Tables and rows": facts, and how one lies in a row of each table.
use Rattle.std.specs.Prelude.{ℕ, List, [], ◌∷◌}

-- a fact: a triple (entity, attribute, value)
pub record Fact : Type 0 where
  pub entity : ℕ
  pub attribute : ℕ
  pub value : ℕ

-- three words a row
abbrev pub words : ℕ
words = 3

-- aevt (a, e, v), avet (a, v, e), eavt (e, a, v)
abbrev pub aevt_row : Fact → List ℕ
aevt_row f = f.attribute ∷ f.entity ∷ f.value ∷ []

abbrev pub avet_row : Fact → List ℕ
avet_row f = f.attribute ∷ f.value ∷ f.entity ∷ []

abbrev pub eavt_row : Fact → List ℕ
eavt_row f = f.entity ∷ f.attribute ∷ f.value ∷ []
