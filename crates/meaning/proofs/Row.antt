-- One scan at one row: what it leaves in its two slots is the fact of that row, and a row whose fact the slots state already leaves them as
-- they are.
use mathlib.Core.Path.{◌≡◌, refl, sym, ◌∙◌}
use mathlib.Core.Bool.{true, false}
use mathlib.Core.List.{List, [], ◌∷◌}
use Prim.Native.Nat.{ℕ, zero, suc, ◌+◌, ◌<◌}
use lib.ListN.{length, get_or, set, take, length-set}
use lib.Seq.{get_or-set_same, get_or-set_other, set-get_or}
use lib.Dec.{eqb}
use borrow.Author.Tests.{eqb-true, eqb-false, eq-eqb}
use Rattle.datom.specs.Fact.{Fact}
use Rattle.datom.specs.declared.Aid.{Aid}
use Rattle.tables.specs.Rows.{count, row, begins}
use Rattle.tables.proofs.Order.{both}
use Rattle.tables.proofs.Table.{row-key}
use Rattle.plan.specs.declared.Slot.{Slot}
use Rattle.plan.specs.declared.Scan.{Scan}
use Rattle.plan.specs.declared.Index.{Index}
use Rattle.plan.specs.declared.Index.TheVariants.{Aevt, Avet, Eavt}
use Rattle.plan.specs.declared.Flow.{Flow}
use Rattle.plan.specs.declared.Flow.TheVariants.{OutOut, InOut, InIn}
use Rattle.plan.specs.declared.EntityValueFlow.{EntityValueFlow}
use Rattle.plan.specs.declared.EntityValueFlow.TheVariants.{OutOut as BothOut, InOut as EntityIn, OutIn as ValueIn, InIn as BothIn}
use Rattle.plan.specs.declared.Access.TheVariants.{Reads, Writes}
use Rattle.plan.specs.Plan.{in_order, first_slot, second_slot, first_access, second_access, entity_value_flow, out_out_eavt}
use Rattle.plan_check.specs.Check.{is_written}
use Rattle.visits.specs.Visits.{Tables, table_of, row_for, fact_in, inputs, wanted, with_fact, standing}
use Rattle.lists.proofs.Tests.{neither}
use Rattle.visits.specs.Sound.{Steady}
use Rattle.visits.proofs.Stood.{no-yes}
use Rattle.visits.proofs.Steady.{no_writes}

-- a fact's row is that of the fact in it, and the other way round
pub fact-back : (x : Index) (f : Fact) → fact_in x (row_for x f) ≡ f
fact-back Aevt f = refl
fact-back Avet f = refl
fact-back Eavt f = refl

pub row_back : (x : Index) (t : List ℕ) (k : ℕ) → k < count t → row_for x (fact_in x (row t k)) ≡ row t k
row_back Aevt t k h = rw (row-key t k h)
row_back Avet t k h = rw (row-key t k h)
row_back Eavt t k h = rw (row-key t k h)

-- a row begins with the first of its own words
pub begins-own : (n : ℕ) (r : List ℕ) → begins r (take n r) ≡ true
unfolding begins
begins-own zero r = refl
begins-own (suc n) [] = refl
begins-own (suc n) (x ∷ r) = rw (eq-eqb x x refl) (begins-own n r)

-- a row that begins with a key has its first word
first_word : (x k : ℕ) (xs ks : List ℕ) → begins (x ∷ xs) (k ∷ ks) ≡ true → (x ≡ k) × (begins xs ks ≡ true)
unfolding begins
first_word x k xs ks e = let b = both (eqb x k) (begins xs ks) e in (eqb-true x k b.0, b.1)

-- what is written stands there, and elsewhere nothing changes
set_first : (slots : List ℕ) (e v : ℕ) → (e ≡ v → ⊥) → e < length slots → (x y : ℕ) → get_or (set (set slots e x) v y) e 0 ≡ x
set_first slots e v apart h x y = get_or-set_other (set slots e x) v e y 0 apart ∙ get_or-set_same slots e x 0 h

set-second : (slots : List ℕ) (e v : ℕ) → v < length slots → (x y : ℕ) → get_or (set (set slots e x) v y) v 0 ≡ y
set-second slots e v h x y = get_or-set_same (set slots e x) v y 0 (rw (length-set slots e x) h)

-- a fact is its three parts
pub same-fact : {a b c a' b' c' : ℕ} → a ≡ a' → b ≡ b' → c ≡ c'
    → ◌≡◌ {A = Fact} (record { entity = a; attribute = b; value = c }) (record { entity = a'; attribute = b'; value = c' })
same-fact p q r = cc

-- a scan by its parts
abbrev scan : Index → Flow → Slot → Aid → Slot → Scan
scan x f e a v = record { index = x; flow = f; entity = e; attribute = a; value = v }

-- a scan that stands at a row which it visits leaves the row's fact in its slots
left : (x : Index) (f : Flow) (e : Slot) (a : Aid) (v : Slot) (slots : List ℕ) (r₀ r₁ r₂ : ℕ) → out_out_eavt f x ≡ false
    → (second_access f ≡ Writes → e.0 ≡ v.0 → ⊥) → e.0 < length slots → v.0 < length slots →
    let s = scan x f e a v in
    let r = r₀ ∷ r₁ ∷ r₂ ∷ [] in
    begins r (take (1 + inputs f) (row_for x (wanted s slots))) ≡ true → wanted s (with_fact (entity_value_flow f x) e v (fact_in x r) slots) ≡ fact_in x r
left Aevt OutOut e a v slots r₀ r₁ r₂ o n ei vi b =
    let p = first_word r₀ _ _ _ b in
    same-fact (set_first slots e.0 v.0 (n refl) ei r₁ r₂) (sym p.0) (set-second slots e.0 v.0 vi r₁ r₂)
left Avet OutOut e a v slots r₀ r₁ r₂ o n ei vi b =
    let p = first_word r₀ _ _ _ b in
    same-fact (set_first slots e.0 v.0 (n refl) ei r₂ r₁) (sym p.0) (set-second slots e.0 v.0 vi r₂ r₁)
left Eavt OutOut e a v slots r₀ r₁ r₂ o n ei vi b = no-yes o
left Aevt InOut e a v slots r₀ r₁ r₂ o n ei vi b =
    let p = first_word r₀ _ _ _ b in
    let q = first_word r₁ _ _ _ p.1 in
    same-fact (get_or-set_other slots v.0 e.0 r₂ 0 (n refl) ∙ sym q.0) (sym p.0) (get_or-set_same slots v.0 r₂ 0 vi)
left Avet InOut e a v slots r₀ r₁ r₂ o n ei vi b =
    let p = first_word r₀ _ _ _ b in
    let q = first_word r₁ _ _ _ p.1 in
    same-fact (get_or-set_same slots e.0 r₂ 0 ei) (sym p.0) (get_or-set_other slots e.0 v.0 r₂ 0 (λ z. n refl (sym z)) ∙ sym q.0)
left Eavt InOut e a v slots r₀ r₁ r₂ o n ei vi b =
    let p = first_word r₀ _ _ _ b in
    let q = first_word r₁ _ _ _ p.1 in
    same-fact (get_or-set_other slots v.0 e.0 r₂ 0 (n refl) ∙ sym p.0) (sym q.0) (get_or-set_same slots v.0 r₂ 0 vi)
left Aevt InIn e a v slots r₀ r₁ r₂ o n ei vi b =
    let p = first_word r₀ _ _ _ b in
    let q = first_word r₁ _ _ _ p.1 in
    same-fact (sym q.0) (sym p.0) (sym (first_word r₂ _ _ _ q.1).0)
left Avet InIn e a v slots r₀ r₁ r₂ o n ei vi b =
    let p = first_word r₀ _ _ _ b in
    let q = first_word r₁ _ _ _ p.1 in
    same-fact (sym (first_word r₂ _ _ _ q.1).0) (sym p.0) (sym q.0)
left Eavt InIn e a v slots r₀ r₁ r₂ o n ei vi b =
    let p = first_word r₀ _ _ _ b in
    let q = first_word r₁ _ _ _ p.1 in
    same-fact (sym p.0) (sym q.0) (sym (first_word r₂ _ _ _ q.1).0)

-- to write a fact that the slots state already changes nothing
same-written : (w : EntityValueFlow) (s : Scan) (slots : List ℕ) → with_fact w s.entity s.value (wanted s slots) slots ≡ slots
same-written BothOut s slots = rw (set-get_or slots s.entity.0 0) (set-get_or slots s.value.0 0)
same-written EntityIn s slots = set-get_or slots s.value.0 0
same-written ValueIn s slots = set-get_or slots s.entity.0 0
same-written BothIn s slots = refl

-- the slots that a scan writes and the other one are two
two-slots : (x : Index) (f : Flow) (e v : Slot) (after : List Scan) (a : Aid) →
    let s = scan x f e a v in
    (first_access f ≡ Writes → (first_slot s).0 ≡ (second_slot s).0 → ⊥) → (first_access f ≡ Reads → is_written (s ∷ after) (first_slot s).0 ≡ false)
    → second_access f ≡ Writes → (first_slot s).0 ≡ (second_slot s).0 → ⊥
unfolding is_written
two-slots x OutOut e v after a n k w q = n refl q
two-slots x InOut e v after a n k w q = eqb-false _ _ (neither (eqb (in_order x v e).0 (in_order x e v).0) _ (k refl)).0 (sym q)
two-slots x InIn e v after a n k w q = no_writes w

by-entity : (x : Index) (e v : Slot) → ((in_order x e v).0 ≡ (in_order x v e).0 → ⊥) → e.0 ≡ v.0 → ⊥
by-entity Aevt e v n q = n q
by-entity Avet e v n q = n (sym q)
by-entity Eavt e v n q = n q

pub in-order : (x : Index) (P : ℕ → Type 0) (e v : Slot) → P (in_order x e v).0 → P (in_order x v e).0 → P e.0 × P v.0
in-order Aevt P e v p q = (p, q)
in-order Avet P e v p q = (q, p)
in-order Eavt P e v p q = (p, q)

module _ (ts : Tables) (s : Scan) (after : List Scan) {n : ℕ} (ok : Steady n s after) (slots : List ℕ) (long : length slots ≡ n) where
  -- at a row that it visits a scan states the row's fact
  pub stands-wanted : (k : ℕ) → k < count (table_of ts s.index) → begins (row (table_of ts s.index) k) (take (1 + inputs s.flow) (row_for s.index (wanted s slots))) ≡ true
      → wanted s (standing ts s slots k) ≡ fact_in s.index (row (table_of ts s.index) k)
  unfolding standing
  stands-wanted k h b =
      let t = table_of ts s.index in
      let both-in = in-order s.index (λ (z : ℕ). z < length slots) s.entity s.value (rw long ok.first_in) (rw long ok.second_in) in
      let two = two-slots s.index s.flow s.entity s.value after s.attribute ok.apart ok.first_kept in
      let r = row-key t k h in
      rw r
      (left s.index s.flow s.entity s.attribute s.value slots _ _ _ ok.not_out_out_eavt
      (λ w. by-entity s.index s.entity s.value (two w)) both-in.0 both-in.1 (rw r at b))

-- at the row of the fact that the slots state nothing changes
pub stands-still : (ts : Tables) (s : Scan) (slots : List ℕ) (k : ℕ) → row_for s.index (wanted s slots) ≡ row (table_of ts s.index) k
    → standing ts s slots k ≡ slots
unfolding standing
stands-still ts s slots k e =
    rw (← e, fact-back s.index (wanted s slots)) (same-written (entity_value_flow s.flow s.index) s slots)
