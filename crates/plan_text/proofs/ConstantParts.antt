-- The lines of the constants: they tell every constant of the slots, whatever follows.
use mathlib.Core.Path.{◌≡◌, refl, sym, ap, ◌∙◌}
use Prim.Native.Nat.{ℕ, zero, suc, ◌+◌, ◌<◌}
use mathlib.Core.List.{List, [], ◌∷◌, ◌++◌, map, append_assoc}
use mathlib.Core.Bool.{Bool, false≢true}
use native.Mathlib.Omega.{arith}
use lib.Dec.{eqb}
use lib.ListN.{get_or, drop, get_or-map}
use Rattle.plan.specs.declared.SlotRecord.{SlotRecord}
use Rattle.plan.specs.declared.SlotDefinition.{SlotDefinition}
use Rattle.plan.specs.declared.SlotDefinition.TheVariants.{Variable, Constant}
use Rattle.plan.specs.Plan.{variable_slot}
use Rattle.text_pieces.specs.Ascii.{ascii}
use Rattle.text_pieces.specs.Decimal.{decimal}
use Rattle.plan_text.specs.Text.{constant_line, constant_lines}
use Rattle.plan_text.proofs.Parts.{Stops, hd, tl, no-cons, decimal-parts}

-- one line, and all, and what follows
abbrev let_on : ℕ → SlotDefinition → List ℕ → List ℕ
let_on k Variable r = r
let_on k (Constant v) r = ascii "let :" ++ (decimal k ++ (ascii " = " ++ (decimal v ++ (10 ∷ r))))

abbrev lets_on : List SlotDefinition → ℕ → List ℕ → List ℕ
lets_on [] k r = r
lets_on (d ∷ ds) k r = let_on k d (lets_on ds (k + 1) r)

-- an l: what follows does not begin with one
abbrev pub is_l : ℕ → Bool
is_l b = eqb b 108

stop-clash : {A : Type 0} (r l : List ℕ) → Stops is_l r → r ≡ 108 ∷ l → A
stop-clash [] l h q = no-cons 108 l (sym q)
stop-clash (x ∷ r) l h q = absurd (false≢true (sym h ∙ ap is_l (ap hd q)))

-- no later line is that of an earlier slot
later : {A : Type 0} (es : List SlotDefinition) (j k v : ℕ) (r s : List ℕ) → k < j → Stops is_l s → let_on k (Constant v) r ≡ lets_on es j s → A
later [] j k v r s h g q = stop-clash s _ g (sym q)
later (Variable ∷ es) j k v r s h g q = later es (j + 1) k v r s (omega arith) g q
later (Constant w ∷ es) j k v r s h g q =
    let o = (decimal-parts k j _ _ refl refl (ap (drop 5) q)).0 in
    absurd (omega arith)

each : (P : ℕ → Type 0) → P 0 → ((i : ℕ) → P (suc i)) → (i : ℕ) → P i
each P p q zero = p
each P p q (suc i) = q i

abbrev Agree : List SlotDefinition → List SlotDefinition → Type 0
Agree ds es = (i : ℕ) → get_or ds i Variable ≡ get_or es i Variable

told : (ds es : List SlotDefinition) (k : ℕ) (r s : List ℕ) → Stops is_l r → Stops is_l s → lets_on ds k r ≡ lets_on es k s → Agree ds es × (r ≡ s)
told [] [] k r s h g q = (λ i. refl, q)
told [] (Variable ∷ es) k r s h g q =
    let o = told [] es (k + 1) r s h g q in
    (each (λ i. Variable ≡ get_or (Variable ∷ es) i Variable) refl o.0, o.1)
told [] (Constant v ∷ es) k r s h g q = stop-clash r _ h q
told (Variable ∷ ds) [] k r s h g q =
    let o = told ds [] (k + 1) r s h g q in
    (each (λ i. get_or (Variable ∷ ds) i Variable ≡ Variable) refl o.0, o.1)
told (Constant v ∷ ds) [] k r s h g q = stop-clash s _ g (sym q)
told (Variable ∷ ds) (Variable ∷ es) k r s h g q =
    let o = told ds es (k + 1) r s h g q in
    (each (λ i. get_or (Variable ∷ ds) i Variable ≡ get_or (Variable ∷ es) i Variable) refl o.0, o.1)
told (Constant v ∷ ds) (Variable ∷ es) k r s h g q = later es (k + 1) k v _ s (omega arith) g q
told (Variable ∷ ds) (Constant v ∷ es) k r s h g q = later ds (k + 1) k v _ r (omega arith) h (sym q)
told (Constant v ∷ ds) (Constant w ∷ es) k r s h g q =
    let a = decimal-parts k k _ _ refl refl (ap (drop 5) q) in
    let b = decimal-parts v w _ _ refl refl (ap (drop 3) a.1) in
    let o = told ds es (k + 1) r s h g (ap tl b.1) in
    (each (λ i. get_or (Constant v ∷ ds) i Variable ≡ get_or (Constant w ∷ es) i Variable) (ap Constant b.0) o.0, o.1)

-- as the text has them
abbrev definitions : List SlotRecord → List SlotDefinition
definitions = map (λ (s : SlotRecord). s.definition)

let-on : (k : ℕ) (d : SlotDefinition) (r : List ℕ) → constant_line k d ++ r ≡ let_on k d r
unfolding constant_line
let-on k Variable r = refl
let-on k (Constant v) r = simp append_assoc

lets-on : (ss : List SlotRecord) (k : ℕ) (r : List ℕ) → constant_lines ss k ++ r ≡ lets_on (definitions ss) k r
unfolding constant_lines
lets-on [] k r = refl
lets-on (s ∷ ss) k r =
    append_assoc (constant_line k s.definition) (constant_lines ss (k + 1)) r ∙ ap (λ (l : List ℕ). constant_line k s.definition ++ l) (lets-on ss (k + 1) r)
    ∙ let-on k s.definition (lets_on (definitions ss) (k + 1) r)

pub constants-parts : (ss ts : List SlotRecord) (r s : List ℕ) → Stops is_l r → Stops is_l s → constant_lines ss 0 ++ r ≡ constant_lines ts 0 ++ s
    → ((i : ℕ) → (get_or ss i variable_slot).definition ≡ (get_or ts i variable_slot).definition) × (r ≡ s)
constants-parts ss ts r s h g q =
    let o = told (definitions ss) (definitions ts) 0 r s h g (sym (lets-on ss 0 r) ∙ q ∙ lets-on ts 0 s) in
    let f : SlotRecord → SlotDefinition = λ t. t.definition in
    (λ i. sym (get_or-map f ss i variable_slot) ∙ o.0 i ∙ get_or-map f ts i variable_slot, o.1)
