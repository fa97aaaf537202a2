-- `is_table`: whole rows, of which each comes before the next.
use Rattle.std.proofs.Common.{rules, get_or, ltb, sym, ◌∙◌}
use borrow.Author.Tests.{eqb-true, eqb-false}
use Rattle.std.proofs.lemmas.List.Sorted.{answers_always}
use Rattle.types.proofs.Table.{table-odd, rows-tested}
use Rattle.types.proofs.is_table.Goals as goal

pub returns-then-is_empty : goal.returns-then-is_empty
returns-then-is_empty c =
    rows-tested _ _ c.as_chunks.ensures.front c.as_chunks.ensures.front_len
    (sym c.as_chunks.ensures.back_len ∙ eqb-true _ _ (sym c.is_empty.ensures ∙ c.if-is_empty.true)) _
    (c.is_sorted_by.ensures.cases (λ x y. ltb (get_or x 0 0) (get_or y 0 0)) (answers_always _ _ _ (λ f a r g called. search rules)))

pub returns-else-is_empty : goal.returns-else-is_empty
returns-else-is_empty c =
    c.if-is_empty.false ∙
    sym (table-odd _ (λ q. eqb-false _ _ (sym c.is_empty.ensures ∙ c.if-is_empty.false) (c.as_chunks.ensures.back_len ∙ q)))
