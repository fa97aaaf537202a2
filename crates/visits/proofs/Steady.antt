-- A plan that passes the check is steady: what a scan reads is set before it, and what is set no scan from it on writes.
use mathlib.Core.Path.{◌≡◌, refl, sym, ◌∙◌}
use mathlib.Core.Bool.{Bool, true, false, ◌||◌, false≢true, or_assoc, or-false, or-true}
use mathlib.Core.List.{List, [], ◌∷◌, ◌++◌}
use Prim.Native.Nat.{ℕ, zero, suc, ◌+◌, ◌-◌, ◌<◌}
use native.Mathlib.Omega.{arith}
use native.Mathlib.Nat.{zero-add}
use lib.ListN.{length, get_or, take, drop, drop_of_length-le}
use lib.Seq.{take-suc, drop-cons}
use lib.Dec.{eqb}
use borrow.Author.Tests.{eqb-true, eqb-false, eq-eqb}
use Rattle.plan.specs.declared.Scan.{Scan}
use Rattle.plan.specs.declared.SlotRecord.{SlotRecord}
use Rattle.plan.specs.declared.Plan.{Plan}
use Rattle.plan.specs.declared.Flow.{Flow}
use Rattle.plan.specs.declared.Flow.TheVariants.{OutOut, InOut, InIn}
use Rattle.plan.specs.declared.Access.{Access}
use Rattle.plan.specs.declared.Access.TheVariants.{Reads, Writes}
use Rattle.plan.specs.Plan.{first_slot, second_slot, first_access, second_access, is_constant, variable_slot, zero_scan, scans_of, slots_of}
use Rattle.plan_check.specs.Check.{writes_to, first_writes, second_writes, is_written, is_set}
use Rattle.plan_check.specs.Promised.{Rightly, Fits, Promised}
use Rattle.lists.proofs.Tests.{neither}
use Rattle.visits.specs.Sound.{Sound}

-- what a scan leaves in its two slots stays there
pub record Last (s : Scan) (after : List Scan) : Type 0 where
  pub first_last : is_written after (first_slot s).0 ≡ false
  pub second_last : is_written after (second_slot s).0 ≡ false

-- what some scans and then others write
written-append : (before after : List Scan) (k : ℕ) → is_written (before ++ after) k ≡ (is_written before k || is_written after k)
unfolding is_written
written-append [] after k = refl
written-append (s ∷ before) after k = rw (written-append before after k) (sym (or_assoc (first_writes s k || second_writes s k) _ _))

-- what is set stays set
set-stays : (slots : List SlotRecord) (before : List Scan) (s : Scan) (k : ℕ) → is_set slots before k ≡ true → is_set slots (before ++ (s ∷ [])) k ≡ true
unfolding is_set
set-stays slots before s k e = rw (written-append before (s ∷ []) k, ← or_assoc, e) refl

-- an access that is right writes nothing that is set
right-access : (set : ℕ → Bool) (a : Access) (x k : ℕ) → Rightly a (set x) → set k ≡ true → writes_to a x k ≡ false
right-access set Reads x k r e = refl
right-access set Writes x k r e = go (eqb x k) refl
  where
    go : (b : Bool) → eqb x k ≡ b → eqb x k ≡ false
    go false q = q
    go true q = absurd (false≢true (sym r ∙ rw (eqb-true x k q) e))

-- a slot that is rightly read is set, also where the first may set it for the second
first-set : (a : Access) (set : Bool) → Rightly a set → a ≡ Reads → set ≡ true
first-set Reads set r e = r
first-set Writes set r e = cc

second-set : (f : Flow) (set : Bool) (x y : ℕ) → Rightly (second_access f) (set || writes_to (first_access f) x y) → second_access f ≡ Reads → set ≡ true
second-set OutOut set x y r e = cc
second-set InOut set x y r e = cc
second-set InIn set x y r e = rw or-false at r

-- no access reads and writes
pub no_writes : {A : Type 0} → Reads ≡ Writes → A
no_writes e = let z : ◌≡◌ {A = Bool} false true = cc in absurd (false≢true z)

-- no scan writes one slot twice
slots_apart : (f : Flow) (set : Bool) (x y : ℕ) → Rightly (second_access f) (set || writes_to (first_access f) x y) → first_access f ≡ Writes → x ≡ y → ⊥
slots_apart OutOut set x y r e = eqb-false x y (neither set (eqb x y) r).1
slots_apart InOut set x y r e = no_writes e
slots_apart InIn set x y r e = no_writes e

-- what a scan accesses rightly is set after it
after-set : (slots : List SlotRecord) (before : List Scan) (s : Scan) (k : ℕ) → (is_set slots before k || (first_writes s k || second_writes s k)) ≡ true
    → is_set slots (before ++ (s ∷ [])) k ≡ true
unfolding is_set is_written
after-set slots before s k e =
    let c = is_constant (get_or slots k variable_slot).definition in
    rw (written-append before (s ∷ []) k, or-false (first_writes s k || second_writes s k))
    (sym (or_assoc c (is_written before k) (first_writes s k || second_writes s k)) ∙ e)

reads-or-writes : (a : Access) (set : Bool) (x : ℕ) → Rightly a set → (set || writes_to a x x) ≡ true
reads-or-writes Reads set x r = rw r refl
reads-or-writes Writes set x r = rw (eq-eqb x x refl) (or-true set)

module _ (slots : List SlotRecord) (before : List Scan) (s : Scan) (f : Fits slots before s) where
  first-after : is_set slots (before ++ (s ∷ [])) (first_slot s).0 ≡ true
  first-after =
      after-set slots before s (first_slot s).0
      (rw (← or_assoc, reads-or-writes (first_access s.flow) (is_set slots before (first_slot s).0) (first_slot s).0 f.first_right) refl)

  second-after : is_set slots (before ++ (s ∷ [])) (second_slot s).0 ≡ true
  second-after =
      after-set slots before s (second_slot s).0
      (rw (← or_assoc) (reads-or-writes (second_access s.flow) (is_set slots before (second_slot s).0 || first_writes s (second_slot s).0) (second_slot s).0 f.second_right))

module _ (slots : List SlotRecord) (ss : List Scan) (fit : (j : ℕ) → j < length ss → Fits slots (take j ss) (get_or ss j zero_scan)) where
  -- what is set before scan i is not written from it on
  set-kept : (left i k : ℕ) → i + left ≡ length ss → is_set slots (take i ss) k ≡ true → is_written (drop i ss) k ≡ false
  unfolding is_written
  set-kept zero i k n e = rw (drop_of_length-le ss {i = i} (omega arith)) refl
  set-kept (suc left) i k n e =
      let low : i < length ss = omega arith in
      let s = get_or ss i zero_scan in
      let set : ℕ → Bool = λ z. is_set slots (take i ss) z || first_writes s z in
      let next : is_set slots (take (suc i) ss) k ≡ true = rw (take-suc ss i zero_scan low) (set-stays slots (take i ss) s k e) in
      rw (
        drop-cons ss i zero_scan low,
        right-access (is_set slots (take i ss)) (first_access s.flow) (first_slot s).0 k (fit i low).first_right e,
        right-access set (second_access s.flow) (second_slot s).0 k (fit i low).second_right (rw e refl),
        set-kept left (suc i) k (omega arith) next,
      )
      refl

  kept : (i k : ℕ) → i < length ss → is_set slots (take i ss) k ≡ true → is_written (get_or ss i zero_scan ∷ drop (suc i) ss) k ≡ false
  kept i k low e = rw (drop-cons ss i zero_scan low) at (set-kept (length ss - i) i k (omega arith) e)

  -- after a scan both its slots are set, so no later scan writes them
  slots-last : (i : ℕ) → i < length ss → Last (get_or ss i zero_scan) (drop (suc i) ss)
  slots-last i low =
      let s = get_or ss i zero_scan in
      let f = fit i low in
      let next : take (suc i) ss ≡ take i ss ++ (s ∷ []) = take-suc ss i zero_scan low in
      let left : suc i + (length ss - suc i) ≡ length ss = omega arith in
      record {
        first_last = set-kept (length ss - suc i) (suc i) _ left (rw next (first-after slots (take i ss) s f));
        second_last = set-kept (length ss - suc i) (suc i) _ left (rw next (second-after slots (take i ss) s f));
      }

  fit-sound : Sound (length slots) ss
  fit-sound i low =
      let s = get_or ss i zero_scan in
      let f = fit i low in
      let set : ℕ → Bool = is_set slots (take i ss) in
      let x = (first_slot s).0 in
      let y = (second_slot s).0 in
      record {
        first_in = f.first_named;
        second_in = f.second_named;
        apart = slots_apart s.flow (set y) x y f.second_right;
        first_kept = λ e. kept i x low (first-set (first_access s.flow) (set x) f.first_right e);
        second_kept = λ e. kept i y low (second-set s.flow (set y) x y f.second_right e);
        not_out_out_eavt = f.not_out_out_eavt;
      }

-- all that evaluation uses of a plan's scans
pub promised-sound : (p : Plan) → Promised p → Sound (length (slots_of p)) (scans_of p)
promised-sound p q = fit-sound (slots_of p) (scans_of p) q.scans_fit

-- and what the rows that it yields mean leans on besides
pub promised-last : (p : Plan) → Promised p → (i : ℕ) → i < length (scans_of p) → Last (get_or (scans_of p) i zero_scan) (drop (suc i) (scans_of p))
promised-last p q = slots-last (slots_of p) (scans_of p) q.scans_fit

-- no scan writes a constant's slot
pub constant-kept : (p : Plan) → Promised p → (k : ℕ) → is_set (slots_of p) [] k ≡ true → is_written (scans_of p) k ≡ false
constant-kept p q k e = set-kept (slots_of p) (scans_of p) q.scans_fit (length (scans_of p)) 0 k (zero-add (length (scans_of p))) e
