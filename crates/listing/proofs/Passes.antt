-- Every plan listed passes the check where one does: over each index of its cycle a scan does the same with its entity and value.
use mathlib.Core.Path.{◌≡◌, refl, sym, ◌∙◌, subst}
use mathlib.Core.Logic.{⊎_elim}
use Prim.Native.Nat.{ℕ, zero, suc, ◌≤◌, ◌<◌}
use mathlib.Core.List.Memᴰ
use mathlib.Core.List.{List, [], ◌∷◌, ◌++◌, map, Memᴰ}
use mathlib.Core.Bool.{false}
use native.Mathlib.Nat.{not-suc-le-zero, le_of_suc-le-suc}
use lib.ListN.{length, get_or}
use lib.Seq.{length-take-le, take_at}
use Rattle.datom.specs.declared.Aid.{Aid}
use Rattle.std.specs.Prelude.{Ok}
use Rattle.plan.specs.declared.Slot.{Slot}
use Rattle.plan.specs.declared.Scan.{Scan}
use Rattle.plan.specs.declared.Plan.{Plan}
use Rattle.plan.specs.declared.Index.{Index}
use Rattle.plan.specs.declared.Index.TheVariants.{Aevt, Avet, Eavt}
use Rattle.plan.specs.declared.Flow.{Flow}
use Rattle.plan.specs.declared.Flow.TheVariants.{OutOut, InOut, InIn}
use Rattle.plan.specs.Plan.{entity_value_flow, out_out_eavt, zero_scan, scans_of, slots_of}
use Rattle.plan_check.specs.Check.{check_of}
use Rattle.plan_check.proofs.Promises.{promises, promised-passes}
use Rattle.listing.specs.Next.{with_scans}
use Rattle.listing.specs.Listing.{over, cycle_of, each_before, combinations}
use Rattle.listing.proofs.SameAccesses.{SameAccesses, SameScans, none, more, same_length, same_set, same-scans-fit}

-- each element of a list
data Each {A : Type 0} (P : A → Type 0) : List A → Type 0 where
  nil : Each P []
  one : {x : A} {xs : List A} → P x → Each P xs → Each P (x ∷ xs)

each_append : {A : Type 0} {P : A → Type 0} {xs ys : List A} → Each P xs → Each P ys → Each P (xs ++ ys)
each_append nil q = q
each_append (one p ps) q = one p (each_append ps q)

each_at : {A : Type 0} {P : A → Type 0} {xs : List A} → Each P xs → (d : A) (t : ℕ) → t < length xs → P (get_or xs t d)
each_at nil d t h = absurd (not-suc-le-zero h)
each_at (one p ps) d zero h = p
each_at (one p ps) d (suc t) h = each_at ps d t (le_of_suc-le-suc h)

each_in : {A : Type 0} {P : A → Type 0} {xs : List A} → Each P xs → {x : A} → Memᴰ x xs → P x
each_in nil m = absurd (Memᴰ.not-nil m)
each_in {P = P} (one p ps) m = ⊎_elim (λ e. subst P (sym e) p) (each_in ps) (Memᴰ.cases_cons m)

-- a scan and those of its cycle
same_over : (s : Scan) (x : Index) → entity_value_flow s.flow s.index ≡ entity_value_flow s.flow x → out_out_eavt s.flow x ≡ false → SameAccesses s (over s x)
same_over s x e n = record { flows = e; entities = refl; attributes = refl; values = refl; not_out_out_eavt = n }

same-cycle : (f : Flow) (x : Index) (e : Slot) (a : Aid) (v : Slot) →
    let s : Scan = record { index = x; flow = f; entity = e; attribute = a; value = v } in Each (SameAccesses s) (cycle_of s)
same-cycle OutOut Aevt e a v = one (same_over _ _ refl refl) (one (same_over _ _ refl refl) nil)
same-cycle OutOut Avet e a v = one (same_over _ _ refl refl) (one (same_over _ _ refl refl) nil)
same-cycle OutOut Eavt e a v = nil
same-cycle InIn Aevt e a v = one (same_over _ _ refl refl) (one (same_over _ _ refl refl) (one (same_over _ _ refl refl) nil))
same-cycle InIn Avet e a v = one (same_over _ _ refl refl) (one (same_over _ _ refl refl) (one (same_over _ _ refl refl) nil))
same-cycle InIn Eavt e a v = one (same_over _ _ refl refl) (one (same_over _ _ refl refl) (one (same_over _ _ refl refl) nil))
same-cycle InOut Aevt e a v = one (same_over _ _ refl refl) (one (same_over _ _ refl refl) nil)
same-cycle InOut Eavt e a v = one (same_over _ _ refl refl) (one (same_over _ _ refl refl) nil)
same-cycle InOut Avet e a v = one (same_over _ _ refl refl) nil

-- scans and the combinations of their cycles
same-before : (s : Scan) (ss xs : List Scan) (ls : List (List Scan)) → Each (SameAccesses s) xs → Each (SameScans ss) ls → Each (SameScans (s ∷ ss)) (each_before xs ls)
unfolding each_before
same-before s ss xs [] p q = nil
same-before s ss xs (l ∷ ls) p (one b q) = each_append (heads xs p) (same-before s ss xs ls p q)
  where
    heads : (ys : List Scan) → Each (SameAccesses s) ys → Each (SameScans (s ∷ ss)) (map (λ y. y ∷ l) ys)
    heads [] nil = nil
    heads (y ∷ ys) (one a r) = one (more a b) (heads ys r)

same-combinations : (ss : List Scan) → Each (SameScans ss) (combinations ss)
unfolding combinations
same-combinations [] = one none nil
same-combinations (s ∷ ss) =
    same-before s ss (cycle_of s) (combinations ss) (same-cycle s.flow s.index s.entity s.attribute s.value) (same-combinations ss)

-- each list of scans listed
pub same-accesses : (ss : List Scan) (t : ℕ) → t < length (combinations ss) → SameScans ss (get_or (combinations ss) t [])
same-accesses ss = each_at (same-combinations ss) []

pub same-listed : (ss l : List Scan) → Memᴰ l (combinations ss) → SameScans ss l
same-listed ss l = each_in (same-combinations ss)

-- a plan with such scans, of the same slots and selects
module _ (p : Plan) (l : List Scan) (fits : p.scan_count ≤ length p.scans) (b : SameScans (scans_of p) l) where
  pub same_count : length l ≡ p.scan_count
  same_count = sym (same_length b) ∙ length-take-le _ _ fits

  pub same-scans : scans_of (with_scans p l) ≡ l
  same-scans = take_at l _ _ same_count

  pub same-passes : check_of p ≡ Ok tt → check_of (with_scans p l) ≡ Ok tt
  same-passes e =
      let q = promises p e in
      promised-passes (with_scans p l) record {
        few_scans = q.few_scans;
        few_slots = q.few_slots;
        few_selects = q.few_selects;
        some_select = q.some_select;
        scans_fit = rw same-scans (λ j h. same-scans-fit b (slots_of p) zero_scan j h (q.scans_fit j (rw (same_length b) h)));
        all_set = rw (same-scans, ← (same_set b (slots_of p))) q.all_set;
        selects_named = q.selects_named;
        selects_variable = q.selects_variable;
      }

-- every plan listed
pub listed-passes : (p : Plan) → p.scan_count ≤ length p.scans → check_of p ≡ Ok tt
    → (t : ℕ) → t < length (combinations (scans_of p)) → check_of (with_scans p (get_or (combinations (scans_of p)) t [])) ≡ Ok tt
listed-passes p n e t h = same-passes p _ n (same-accesses (scans_of p) t h) e
