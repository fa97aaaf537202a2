-- The slots once a scan stands at a row, in index order, and what of them stays or agrees.
use mathlib.Core.Path.{◌≡◌, refl, sym, ◌∙◌}
use mathlib.Core.Bool.{Bool, true, false, ◌||◌, false≢true}
use mathlib.Core.List.{List}
use Prim.Native.Nat.{ℕ, ◌<◌}
use lib.ListN.{length, get_or, set, length-set}
use lib.Seq.{get_or-set_same, get_or-set_other, set_comm}
use lib.Dec.{eqb}
use borrow.Author.Tests.{eqb-true, eqb-false}
use Rattle.plan.specs.declared.Slot.{Slot}
use Rattle.plan.specs.declared.Index.{Index}
use Rattle.plan.specs.declared.Index.TheVariants.{Aevt, Avet, Eavt}
use Rattle.plan.specs.declared.Flow.{Flow}
use Rattle.plan.specs.declared.Flow.TheVariants.{OutOut, InOut, InIn}
use Rattle.plan.specs.declared.Access.TheVariants.{Writes}
use Rattle.plan.specs.Plan.{in_order, first_access, second_access, entity_value_flow, out_out_eavt}
use Rattle.plan_check.specs.Check.{writes_to}
use Rattle.visits.specs.Visits.{fact_in, with_fact}
use Rattle.lists.proofs.Tests.{neither}
use Rattle.visits.specs.Sound.{stood}

-- no test is true and false
pub no-yes : {A : Type 0} → true ≡ false → A
no-yes e = absurd (false≢true (sym e))

-- a scan's step in index order
pub stood-by : (x : Index) (f : Flow) (e v : Slot) (r slots : List ℕ) → out_out_eavt f x ≡ false
    → (first_access f ≡ Writes → (in_order x e v).0 ≡ (in_order x v e).0 → ⊥)
    → with_fact (entity_value_flow f x) e v (fact_in x r) slots ≡ stood f (in_order x e v).0 (in_order x v e).0 (get_or r 1 0) (get_or r 2 0) slots
stood-by Aevt OutOut e v r slots o h = refl
stood-by Avet OutOut e v r slots o h = set_comm slots e.0 v.0 (get_or r 2 0) (get_or r 1 0) (λ q. h refl (sym q))
stood-by Eavt OutOut e v r slots o h = no-yes o
stood-by Aevt InOut e v r slots o h = refl
stood-by Avet InOut e v r slots o h = refl
stood-by Eavt InOut e v r slots o h = refl
stood-by Aevt InIn e v r slots o h = refl
stood-by Avet InIn e v r slots o h = refl
stood-by Eavt InIn e v r slots o h = refl

-- two lists that agree, set at one place
set-agree : (a b : List ℕ) (y v z : ℕ) → y < length a → y < length b → (eqb y z ≡ false → get_or a z 0 ≡ get_or b z 0)
    → get_or (set a y v) z 0 ≡ get_or (set b y v) z 0
set-agree a b y v z l m h = go (eqb y z) refl
  where
    go : (t : Bool) → eqb y z ≡ t → get_or (set a y v) z 0 ≡ get_or (set b y v) z 0
    go true e = rw (← (eqb-true y z e)) (get_or-set_same a y v 0 l ∙ sym (get_or-set_same b y v 0 m))
    go false e =
        let n = eqb-false y z e in
        get_or-set_other a y z v 0 (λ q. n (sym q)) ∙ h e ∙ sym (get_or-set_other b y z v 0 (λ q. n (sym q)))

set_apart : (a : List ℕ) (y v z : ℕ) → eqb y z ≡ false → get_or (set a y v) z 0 ≡ get_or a z 0
set_apart a y v z e = get_or-set_other a y z v 0 (λ q. eqb-false y z e (sym q))

-- a scan of this flow, whose slots are x and y, writes slot z
abbrev writes : Flow → ℕ → ℕ → ℕ → Bool
writes f x y z = writes_to (first_access f) x z || writes_to (second_access f) y z

module _ (x y u v : ℕ) where
  pub stood-length : (f : Flow) (a : List ℕ) → length (stood f x y u v a) ≡ length a
  stood-length OutOut a = simp length-set
  stood-length InOut a = simp length-set
  stood-length InIn a = refl

  pub stood-other : (f : Flow) (a : List ℕ) (z : ℕ) → writes f x y z ≡ false → get_or (stood f x y u v a) z 0 ≡ get_or a z 0
  stood-other OutOut a z e = let n = neither _ _ e in set_apart (set a x u) y v z n.1 ∙ set_apart a x u z n.0
  stood-other InOut a z e = set_apart a y v z e
  stood-other InIn a z e = refl

  pub stood-agree : (f : Flow) (a b : List ℕ) (z : ℕ) → x < length a → x < length b → y < length a → y < length b
      → (writes f x y z ≡ false → get_or a z 0 ≡ get_or b z 0) → get_or (stood f x y u v a) z 0 ≡ get_or (stood f x y u v b) z 0
  stood-agree OutOut a b z l l' m m' h =
      set-agree (set a x u) (set b x u) y v z (simp length-set m) (simp length-set m') (λ n. set-agree a b x u z l l' (λ o. h (rw (n, o) refl)))
  stood-agree InOut a b z l l' m m' h = set-agree a b y v z m m' h
  stood-agree InIn a b z l l' m m' h = h refl
