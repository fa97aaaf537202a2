-- A step of the innermost scan takes the next visit: where every scan stands no slot is stale.
use mathlib.Core.Path.{◌≡◌, refl, sym, ap, ◌∙◌, subst}
use mathlib.Core.Bool.{Bool, true, false}
use mathlib.Core.List.{List, []}
use Prim.Native.Nat.{ℕ, zero, suc, ◌-◌, ◌/◌, ◌≤◌, ◌<◌}
use native.Mathlib.Omega.{arith}
use lib.ListN.{length, get_or, take, drop}
use lib.Seq.{take-length, drop-length, ext_get_or}
use Rattle.plan.specs.declared.Scan.{Scan}
use Rattle.plan.specs.Plan.{zero_scan}
use Rattle.plan_check.specs.Check.{is_written}
use Rattle.visits.specs.Visits.{Tables, slots_at}
use Rattle.visits.specs.Sound.{Sound, Agree}
use Rattle.visits.specs.Pending.{extend, position, ending, current, current_slots, pending}
use Rattle.visits.proofs.Pending.{pending-dry, current-slots-length, agree-below}
use Rattle.eval.specs.Words.{laid_words, scans_in, Laid}
use Rattle.eval.specs.Steps.{Ready, Stepped}
use Rattle.eval.proofs.Words.{laid-length}
use Rattle.eval.specs.Next.{innermost, Advanced}

-- where no scan has a row left nothing is to come
none-pending : (ts : Tables) (ss : List Scan) (initial p : List ℕ) (i : ℕ) → ((j : ℕ) → j < i → ending p j ≤ position p j) → pending ts ss initial p i ≡ []
unfolding pending extend
none-pending ts ss initial p zero h = refl
none-pending ts ss initial p (suc i) h =
    pending-dry ts ss initial p i (h i (omega arith)) ∙
    ap (extend ts (take i ss) (get_or ss i zero_scan) initial) (none-pending ts ss initial p i (λ j l. h j (omega arith)))

module _ {ts : Tables} {ss : List Scan} {initial iters slots : List ℕ} (r : Ready ts ss initial iters slots (innermost ss)) where
  abbrev last : ℕ
  last = innermost ss

  suc-last : suc last ≡ length ss
  suc-last = omega (arith, r.low)

  module _ (ok : Sound (length slots) ss) (iters' slots' : List ℕ) (long : length iters' ≡ length iters) (wide : length slots' ≡ length slots) where
    -- the slots are the visit's
    all-agree : Agree (drop (suc last) ss) slots' (current_slots ts ss initial iters' (suc last)) → slots' ≡ slots_at ts ss initial (current iters' (length ss))
    unfolding is_written
    all-agree a =
        let h : Agree (drop (length ss) ss) slots' (current_slots ts ss initial iters' (length ss)) =
        subst (λ (n : ℕ). Agree (drop n ss) slots' (current_slots ts ss initial iters' n)) suc-last a in
        let whole : length slots' ≡ length (current_slots ts ss initial iters' (length ss)) =
        wide ∙ r.slots_long ∙ sym (current-slots-length ts ss initial ok iters' (length ss) (omega arith)) in
        let same : slots' ≡ current_slots ts ss initial iters' (length ss) = ext_get_or 0 slots' _ whole (λ x _. h.same x (rw (drop-length ss) refl)) in
        same ∙ ap (λ (l : List Scan). slots_at ts l initial (current iters' (length ss))) (take-length ss)

    -- where there is a next visit the slots are those of every scan, and where there is none no scan has a row left
    live-again : (more : Bool) → Stepped ts ss initial iters last more iters' slots' → (j : ℕ) → j ≤ last → position iters' j < ending iters' j
        → Agree (drop j ss) slots' (current_slots ts ss initial iters' j)
    live-again true v j l m = agree-below ts ss initial ok iters' slots' (suc last) r.low (v.yes_slots refl) j (omega arith)
    live-again false v j l m = absurd (omega (arith, v.no_row refl j l))

    pub advanced : (more : Bool) → Stepped ts ss initial iters last more iters' slots' → Advanced ts ss initial iters more iters' slots'
    advanced more v = record {
      next = λ e. rw suc-last at (v.yes_next e);
      slots_are = λ e. all-agree (v.yes_slots e);
      ready = record {
        low = r.low;
        iters_long = omega (arith, r.iters_long);
        slots_long = wide ∙ r.slots_long;
        ends = v.ends;
        live = live-again more v;
      };
      no_more = λ e. rw suc-last at (v.no_more e);
      no_rest = λ e. rw suc-last at (none-pending ts ss initial iters' (suc last) (λ j l. v.no_row e j (omega arith)));
    }

-- the innermost scan's number, from the number of words
pub innermost-is : {ws : List ℕ} {slots : ℕ} → Laid ws slots → length ws / laid_words - 1 ≡ innermost (scans_in ws)
innermost-is h = let e = laid-length h in omega arith
