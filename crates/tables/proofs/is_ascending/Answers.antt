use mathlib.Core.Path.{◌≡◌, sym, ◌∙◌}
use mathlib.Core.Bool.{Bool, true, false, ◌&&◌}
use mathlib.Core.List.{List, [], ◌∷◌, map}
use Prim.Native.Nat.{ℕ, ◌≤◌, ◌<◌, ◌+◌, ◌*◌, ◌-◌}
use native.Mathlib.Omega.{arith}
use lib.ListN.{get_or}
use Rattle.datom.specs.Fact.{words}
use Rattle.lists.specs.Span.{span}
use Rattle.tables.specs.Rows.{count, row, rows_of, before, ascending}
use Rattle.tables.proofs.Table.{before-row, ascending-step, ascending-end}
use Rattle.tables.proofs.is_ascending.Goals as goal

-- the comparison of row i with the one before it decides, and then the rows from i on
turn : (t : List ℕ) (i : ℕ) (b : Bool) → 1 ≤ i → i < count t
    → ascending (rows_of t) ≡ ascending (map (row t) (span (i - 1) (count t - (i - 1))))
    → b ≡ before (row t (i - 1)) (get_or t (words * i) 0 ∷ get_or t (words * i + 1) 0 ∷ get_or t (words * i + 2) 0 ∷ [])
    → ascending (rows_of t) ≡ (b && ascending (map (row t) (span i (count t - i))))
turn t i b l h so e =
    let f : i - 1 + 1 ≡ i = omega arith in
    rw (sym (e ∙ before-row t i h (row t (i - 1)))) at (so ∙ rw f at (ascending-step (row t) (count t) (i - 1) (omega arith)))

pub returns-then-not-is_after : goal.returns-then-not-is_after
returns-then-not-is_after c =
    sym (turn c.args.table.now c.loop-i.i false (omega arith) (omega arith) c.loop-i.invariant (rw c.whole-key.ensures at c.if-not-is_after.ensures))

pub loop-i-preserved : goal.loop-i-preserved
loop-i-preserved c =
    let e : c.loop-i.i + 1 - 1 ≡ c.loop-i.i = omega arith in
    rw e (turn c.args.table.now c.loop-i.i true (omega arith) (omega arith) c.loop-i.invariant (rw c.whole-key.ensures at c.if-not-is_after.ensures))

pub returns : goal.returns
returns c =
    let t = c.args.table.now in
    sym (c.loop-i.invariant ∙ ascending-end (row t) (count t) (c.loop-i.i - 1) (omega arith))
