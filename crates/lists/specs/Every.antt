-- What holds of each element of a list.
use Rattle.std.specs.Prelude.{◌≡◌, List, [], ◌∷◌, Bool, true}

abbrev pub Every : {A : Type 0} → (A → Type 0) → List A → Type 0
Every P [] = Unit {0}
Every P (x ∷ xs) = P x × Every P xs

-- each passes a test
abbrev pub EveryPasses : {A : Type 0} → (A → Bool) → List A → Type 0
EveryPasses test = Every (λ x. test x ≡ true)
