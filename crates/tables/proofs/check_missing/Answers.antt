use mathlib.Core.Path.{◌≡◌, refl, sym, ◌∙◌}
use mathlib.Core.Bool.{Bool, true, false, not, ◌&&◌}
use mathlib.Core.List.{List, [], ◌∷◌, map}
use Prim.Native.Nat.{ℕ, ◌<◌, ◌+◌, ◌*◌, ◌-◌}
use native.Mathlib.Omega.{arith}
use lib.ListN.{get_or}
use Rattle.refusal.specs.Verdict.{refuse_if, or_else, first_fault, refuse_first}
use Rattle.datom.specs.Fact.{words}
use Rattle.lists.specs.Span.{span}
use Rattle.tables.specs.Rows.{count, row, rows_of}
use Rattle.tables.specs.Check.{is_among, missing_fault}
use Rattle.tables.proofs.Table.{row-key, span-step, span-end}
use Rattle.tables.proofs.check_missing.Goals as goal
use Rattle.tables.proofs.check_missing.Goals.{then-not-is_row-via-then-not-is_row, then-not-is_row-via-else-not-is_row+then-not-is_row-2}

-- row i decides, and then the rows after it
turn : (ae : List ℕ) (av ea : List (List ℕ)) (i : ℕ) (b d : Bool) → i < count ae
    → missing_fault av ea (rows_of ae) 0 ≡ missing_fault av ea (map (row ae) (span i (count ae - i))) i
    → b ≡ is_among (get_or ae (words * i) 0 ∷ get_or ae (words * i + 2) 0 ∷ get_or ae (words * i + 1) 0 ∷ []) av
    → d ≡ is_among (get_or ae (words * i + 1) 0 ∷ get_or ae (words * i) 0 ∷ get_or ae (words * i + 2) 0 ∷ []) ea
    → missing_fault av ea (rows_of ae) 0 ≡ or_else (refuse_if (not (b && d)) 3 i) (missing_fault av ea (map (row ae) (span (i + 1) (count ae - (i + 1)))) (i + 1))
unfolding missing_fault refuse_first first_fault
turn ae av ea i b d h so e f = rw (e, f) (rw (row-key ae i h) at (rw (span-step (count ae) i h) at so))

pub returns-then-not-is_row : goal.returns-then-not-is_row
returns-then-not-is_row c =
    let ae = c.args.aevt.now in
    let av = rows_of c.args.avet.now in
    let ea = rows_of c.args.eavt.now in
    let i = c.loop-i.i in
    c.refuse.ensures ∙
    sym
    (elim c.then-not-is_row.branch [
      | then-not-is_row-via-then-not-is_row w ↦ turn ae av ea i false _ (omega arith) c.loop-i.invariant (w.if-not-is_row.ensures c.requires.0) refl
      | then-not-is_row-via-else-not-is_row+then-not-is_row-2 w ↦
          turn ae av ea i true false (omega arith) c.loop-i.invariant (w.if-not-is_row.ensures c.requires.0) (w.if-not-is_row-2.ensures c.requires.1)
    ])

pub loop-i-preserved : goal.loop-i-preserved
loop-i-preserved c =
    turn c.args.aevt.now _ _ c.loop-i.i true true (omega arith) c.loop-i.invariant (c.if-not-is_row.ensures c.requires.0) (c.if-not-is_row-2.ensures c.requires.1)

pub returns : goal.returns
unfolding missing_fault refuse_first first_fault
returns c = sym (rw (span-end (count c.args.aevt.now) c.loop-i.i (omega arith)) at c.loop-i.invariant)
