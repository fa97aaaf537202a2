-- `find_type`: the row that the search by halves finds, or that there is none.
use Rattle.std.proofs.Common.{rules, get_or}
use Rattle.std.proofs.lemmas.List.Sorted.{answers_always}
use Rattle.types.proofs.Table.{found, not_found}
use Rattle.types.proofs.find_type.Goals as goal

pub returns-in-Ok : goal.returns-in-Ok
returns-in-Ok c =
    found _ _ c.as_chunks.ensures.front c.as_chunks.ensures.front_len c.requires _ _ c.in-Ok.ensures.bound
    (c.in-Ok.ensures.position (λ row. get_or row 0 0) (answers_always _ _ _ (λ f a r g called. search rules)))

pub returns-in-Err : goal.returns-in-Err
returns-in-Err c =
    not_found _ _ c.as_chunks.ensures.front c.as_chunks.ensures.front_len c.requires _ _
    (c.in-Err.ensures.position (λ row. get_or row 0 0) (answers_always _ _ _ (λ f a r g called. search rules)))
