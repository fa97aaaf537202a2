-- The first row that does not come before the words decides.
use mathlib.Core.Path.{refl, ◌∙◌}
use borrow.Author.Tests.{le-ltb}
use Rattle.tables.proofs.Among.{among-bound, among-past}
use Rattle.tables.proofs.is_row.Goals as goal

pub returns-then-i-table : goal.returns-then-i-table
returns-then-i-table c asc =
    (rw c.whole-key.ensures at c.begins.ensures) ∙ among-bound _ _ _ refl (rw c.whole-key.ensures at c.first_row-i.ensures) asc c.if-i-table.true

pub returns-else-i-table : goal.returns-else-i-table
returns-else-i-table c asc =
    le-ltb _ _ c.if-i-table.false ∙ among-past _ _ _ refl (rw c.whole-key.ensures at c.first_row-i.ensures) asc c.if-i-table.false
