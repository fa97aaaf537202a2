-- What `initialize_scans` has done after some statements, and what one more does: the loop's turns, over the definitions alone.
use mathlib.Core.Path.{◌≡◌, refl, sym, ap, ◌∙◌}
use Prim.Native.Nat.{ℕ, ◌+◌, ◌≤◌, ◌<◌}
use mathlib.Core.List.{List, [], ◌∷◌, ◌++◌}
use mathlib.Core.Bool.{Bool, true, false}
use native.Mathlib.Numerals.{add-one}
use native.Mathlib.Omega.{arith}
use lib.ListN.{length, get_or, set, take, drop, replicate}
use lib.Seq.{take-suc, length-take-le, get_or-take}
use Rattle.capacity.specs.Capacity.{max_scans, max_slots}
use Rattle.std.specs.Prelude.{Ok}
use Rattle.refusal.specs.Verdict.{refused}
use Rattle.lists.specs.Padded.{padded}
use Rattle.lists.proofs.Padded.{padded-none, padded-more}
use Rattle.lists.proofs.Walk.{walk_step, walk_end}
use Rattle.query.specs.declared.Statement.{Statement}
use Rattle.query.specs.Query.{named, zero_statement}
use Rattle.query_check.specs.Refusals.{constants_in, constants}
use Rattle.query_check.specs.Below.{Below}
use Rattle.query_check.proofs.Variables.{statements-below, below_more}
use Rattle.plan.specs.declared.Scan.{Scan}
use Rattle.plan.specs.Plan.{zero_scan}
use Rattle.planner.specs.Refusals.{binds_twice, bound_twice_fault}
use Rattle.planner.specs.Planning.{scan_of, scans_for, not_initialized, initialized_of}
use Rattle.planner.specs.Record.{Plannable, binds_twice_in, scan_in, statement_record}
use Rattle.planner.proofs.Statements.{constants-more, constants-within, scans-more, length-scans}
use Rattle.planner.proofs.Tracks.{Tracks, tracks-none, tracks-more, tracks-bound, tracks-scan}

-- after i of the first n statements: what the record says, the scans, the next slot for a constant, and that none of them is refused
pub record Begun (variables n : ℕ) (items : List Statement) (rec : List Bool) (scans : List Scan) (next i : ℕ) : Type 0 where
  pub within : i ≤ n
  pub tracks : Tracks rec (named (take i items))
  pub made : scans ≡ padded zero_scan max_scans (scans_for [] (take i items) variables)
  pub slots : next ≡ variables + constants (take i items)
  pub fine : bound_twice_fault [] (take n items) 0 ≡ bound_twice_fault (take i items) (drop i (take n items)) i

-- statement number i
abbrev pub statement_at : List Statement → ℕ → Statement
statement_at items i = get_or items i zero_statement

module _ (variables n : ℕ) (items : List Statement) (fits : Plannable variables n items) (long : n ≤ length items) where
  pub begun-none : Begun variables n items (replicate max_slots false) (replicate max_scans zero_scan) variables 0
  unfolding scans_for constants
  begun-none = record { within = omega arith; tracks = tracks-none; made = sym (padded-none zero_scan max_scans); slots = omega arith; fine = refl }

  module _ {rec : List Bool} {scans : List Scan} {next i : ℕ} (b : Begun variables n items rec scans next i) where
    -- past the last statement all have their scans
    pub begun_all : n ≤ i → record { verdict = Ok tt; scans = scans; slot_count = next } ≡ initialized_of variables (take n items)
    unfolding initialized_of bound_twice_fault
    begun_all h =
        let e : i ≡ n = omega (arith, b.within) in
        let f : bound_twice_fault [] (take n items) 0 ≡ Ok tt = b.fine ∙ rw (walk_end items n (omega (arith, fits.few_statements)) i h) in
        rw (f, b.made, b.slots, e)

    module _ (h : i < n) where
      -- its variables have slots
      pub begun-below : Below max_slots (statement_at items i)
      begun-below =
          let l : i < length (take n items) = omega (arith, length-take-le n items (omega (arith, fits.few_statements))) in
          below_more variables max_slots (omega (arith, fits.few_slots)) _
          (rw (get_or-take n items i zero_statement h) at (statements-below variables (take n items) 0 fits.low i zero_statement l))

      front : take (i + 1) items ≡ take i items ++ (statement_at items i ∷ [])
      front = rw add-one (take-suc items i zero_statement (omega (arith, fits.few_statements)))

      turn : bound_twice_fault [] (take n items) 0 ≡ bound_twice_fault (take i items) (statement_at items i ∷ drop (i + 1) (take n items)) i
      turn = rw (walk_step items n (omega (arith, fits.few_statements)) zero_statement i h) at b.fine

      bound : binds_twice (take i items) (statement_at items i) ≡ binds_twice_in rec (statement_at items i)
      bound = sym (tracks-bound (take i items) b.tracks (statement_at items i) begun-below)

      -- a statement that binds one variable twice
      pub begun-bound : binds_twice_in rec (statement_at items i) ≡ true → initialized_of variables (take n items) ≡ not_initialized (refused 16 i)
      unfolding initialized_of bound_twice_fault
      begun-bound e = let f : bound_twice_fault [] (take n items) 0 ≡ refused 16 i = turn ∙ rw (bound ∙ e) in rw f

      -- any other gets its scan
      pub begun_more : binds_twice_in rec (statement_at items i) ≡ false
          → Begun variables n items (statement_record rec (statement_at items i)) (set scans i (scan_in rec (statement_at items i) next))
          (next + constants_in (statement_at items i).value) (i + 1)
      unfolding bound_twice_fault
      begun_more e =
          let l : length (scans_for [] (take i items) variables) ≡ i =
          length-scans [] (take i items) variables ∙ length-take-le i items (omega (arith, fits.few_statements)) in
          let s = scan_of (take i items) (statement_at items i) (variables + constants (take i items)) in
          record {
            within = omega arith;
            tracks = rw front (tracks-more (take i items) b.tracks (statement_at items i));
            made =
                rw (front, scans-more [] (take i items) (statement_at items i) variables, b.made, tracks-scan (take i items) b.tracks (statement_at items i) begun-below next, b.slots)
                (rw l at (padded-more zero_scan max_scans (scans_for [] (take i items) variables) s (omega (arith, l, fits.few_statements))));
            slots = rw (front, constants-more (take i items) (statement_at items i)) (omega (arith, b.slots));
            fine = rw front (turn ∙ rw (bound ∙ e));
          }

      -- and there is a slot for its constant
      pub begun-room : next + constants_in (statement_at items i).value ≤ max_slots
      begun-room =
          let c = ap constants front ∙ constants-more (take i items) (statement_at items i) in
          omega (arith, b.slots, fits.few_slots, constants-within items (i + 1) n (omega arith), c)
