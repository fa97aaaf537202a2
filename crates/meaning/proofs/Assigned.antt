-- The assignments of scans that answer statements: what the visits leave in the variables' slots, since the constants' slots stay as they are.
use mathlib.Core.Path.{◌≡◌, refl, sym, ap, ◌∙◌, subst}
use mathlib.Core.Bool.{Bool, true, false, false≢true}
use mathlib.Core.List.{List, [], ◌++◌, map}
use Prim.Native.Nat.{ℕ, zero, suc, ◌+◌, ◌-◌, ◌≤◌, ◌<◌}
use native.Mathlib.Omega.{arith}
use borrow.Author.Tests.{leb-true, leb-false}
use lib.ListN.{length, get_or, take, drop, replicate, length-append, length-replicate, length-drop, length-map, take-append-drop, get_or-append}
use lib.Seq.{ext_get_or, get_or-take, get_or-drop, get_or-append-add, length-take-le, take_at}
use lib.Dec.{leb}
use Rattle.orders.specs.Times.{times_in}
use Rattle.query.specs.declared.Statement.{Statement}
use Rattle.query.specs.Query.{named}
use Rattle.query_check.specs.Refusals.{constants}
use Rattle.query_check.specs.Below.{Below}
use Rattle.plan.specs.declared.Scan.{Scan}
use Rattle.plan.specs.declared.SlotRecord.{SlotRecord}
use Rattle.plan_check.specs.Check.{is_written}
use Rattle.planner.specs.Planning.{slots_of_constants, scans_for}
use Rattle.planner.proofs.Statements.{length-slots}
use Rattle.planned.proofs.Written.{written-named}
use Rattle.listing.proofs.SameAccesses.{SameScans, same-written}
use Rattle.tables.specs.Passed.{Passed}
use Rattle.visits.specs.Visits.{Tables, start_value}
use Rattle.meaning.specs.Demand.{are_facts}
use Rattle.meaning.proofs.Counted.{image-of, times-image}
use Rattle.meaning.proofs.Finals.{finals, Fitting, Stays, finals-only, finals-once}
use Rattle.meaning.proofs.Stated.{constants_of, scans-stated}

-- the slots before any scan: the variables', and the constants
abbrev pub begun : ℕ → List Statement → List ℕ
begun n ss = replicate n 0 ++ constants_of ss

-- scans that answer statements over n variables
pub record Answering (n : ℕ) (ss : List Statement) (scans : List Scan) : Type 0 where
  pub same : SameScans (scans_for [] ss n) scans
  pub stays : Stays (n + constants ss) scans
  pub below : (j : ℕ) (d : Statement) → j < length ss → Below n (get_or ss j d)
  pub all_named : (x : ℕ) → x < n → named ss x ≡ true
  pub constants_kept : (j : ℕ) → j < constants ss → is_written scans (n + j) ≡ false

module _ (ts : Tables) (passed : Passed ts.aevt ts.avet ts.eavt) (n : ℕ) (ss : List Statement) (scans : List Scan) (ok : Answering n ss scans) where
  constants-long : length (constants_of ss) ≡ constants ss
  constants-long = length-map (slots_of_constants ss) (λ (s : SlotRecord). start_value s.definition) ∙ length-slots ss

  begun-long : length (begun n ss) ≡ n + constants ss
  begun-long = simp (length-append, length-replicate, constants-long)

  -- past the variables the constants stand
  past : (a : List ℕ) → length a ≡ n → (j : ℕ) → get_or (a ++ constants_of ss) (n + j) 0 ≡ get_or (constants_of ss) j 0
  past a e j = rw e at (get_or-append-add a (constants_of ss) j 0)

  -- an assignment that makes the statements facts, and then the constants
  fitting : (a : List ℕ) → length a ≡ n → are_facts ts ss a ≡ true → Fitting ts scans (begun n ss) (a ++ constants_of ss)
  fitting a e f = record {
    long = length-append a (constants_of ss) ∙ ap (λ (m : ℕ). m + length (constants_of ss)) (e ∙ sym (length-replicate n 0)) ∙ sym (length-append (replicate n 0) (constants_of ss));
    agree = record { same = λ x h. go x h (leb n x) refl };
    facts =
        scans-stated n (a ++ constants_of ss) a (λ x h. get_or-append a (constants_of ss) 0 x (rw e h)) ts [] ss n scans ok.same ok.below
        (λ j h. past a e j) ∙ f;
  }
    where
      go : (x : ℕ) → is_written scans x ≡ false → (b : Bool) → leb n x ≡ b → get_or (a ++ constants_of ss) x 0 ≡ get_or (begun n ss) x 0
      go x h true b =
          let low = leb-true n x b in
          let q : n + (x - n) ≡ x = omega arith in
          subst (λ (z : ℕ). get_or (a ++ constants_of ss) z 0 ≡ get_or (begun n ss) z 0) q
          (past a e (x - n) ∙ sym (past (replicate n 0) (length-replicate n 0) (x - n)))
      go x h false b = absurd (false≢true (sym h ∙ sym (same-written ok.same x) ∙ written-named ss n x ∙ ok.all_named x (leb-false n x b)))

  -- the other way round
  module _ (final : List ℕ) (f : Fitting ts scans (begun n ss) final) where
    final-constant : (j : ℕ) → j < constants ss → get_or final (n + j) 0 ≡ get_or (constants_of ss) j 0
    final-constant j h = f.agree.same (n + j) (ok.constants_kept j h) ∙ past (replicate n 0) (length-replicate n 0) j

    final-long : length (take n final) ≡ n
    final-long = length-take-le n final (omega (arith, f.long, begun-long))

    final-parts : final ≡ take n final ++ constants_of ss
    final-parts =
        let e : drop n final ≡ constants_of ss =
        ext_get_or 0 (drop n final) (constants_of ss) (omega (arith, length-drop n final, f.long, begun-long, constants-long))
        (λ j h. get_or-drop n final j 0 ∙ final-constant j (omega (arith, h, length-drop n final, f.long, begun-long))) in
        sym (take-append-drop n final) ∙ ap (λ (l : List ℕ). take n final ++ l) e

    final-facts : are_facts ts ss (take n final) ≡ true
    final-facts =
        sym (scans-stated n final (take n final) (λ x h. sym (get_or-take n final x 0 h)) ts [] ss n scans ok.same ok.below final-constant) ∙ f.facts

  -- the assignments, in the order of the visits
  abbrev pub assigned : List (List ℕ)
  assigned = map (take n) (finals ts scans (begun n ss))

  reached : (z : List ℕ) → 1 ≤ times_in z (finals ts scans (begun n ss)) → Fitting ts scans (begun n ss) z
  reached z h = finals-only ts passed (n + constants ss) scans ok.stays (begun n ss) z begun-long h

  -- each stands as often as what it leaves in the slots
  times-assigned : (y : List ℕ) → Fitting ts scans (begun n ss) y → times_in (take n y) assigned ≡ 1
  times-assigned y f =
      times-image (take n) y (finals ts scans (begun n ss))
      (λ z h e. final-parts z (reached z h) ∙ ap (λ (l : List ℕ). l ++ constants_of ss) e ∙ sym (final-parts y f)) ∙
      finals-once ts passed (n + constants ss) scans ok.stays (begun n ss) y begun-long f

  pub assigned-every : (a : List ℕ) → length a ≡ n → are_facts ts ss a ≡ true → times_in a assigned ≡ 1
  assigned-every a e f = rw (take_at a (constants_of ss) n e) at (times-assigned (a ++ constants_of ss) (fitting a e f))

  pub assigned-only : (a : List ℕ) → 1 ≤ times_in a assigned → (length a ≡ n) × (are_facts ts ss a ≡ true)
  assigned-only a h =
      let w = image-of (take n) a (finals ts scans (begun n ss)) h in
      let f = reached w.0 w.1 in
      (rw w.2 at (final-long w.0 f), rw w.2 at (final-facts w.0 f))

  pub assigned-once : (a : List ℕ) → times_in a assigned ≤ 1
  assigned-once a = go (times_in a assigned) refl
    where
      go : (m : ℕ) → times_in a assigned ≡ m → times_in a assigned ≤ 1
      go zero e = omega arith
      go (suc m) e =
          let w = image-of (take n) a (finals ts scans (begun n ss)) (omega arith) in
          let t = times-assigned w.0 (reached w.0 w.1) in
          omega (arith, rw w.2 at t)
