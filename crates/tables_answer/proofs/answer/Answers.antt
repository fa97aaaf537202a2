-- A text that holds no heap, or the answer for its heap.
use Rattle.tables_answer.proofs.Written.{outside-answered, heap-answered}
use Rattle.tables_answer.proofs.answer.Goals as goal

pub returns-in-Some-clause-written : goal.returns-in-Some-clause-written
returns-in-Some-clause-written c =
    let w = c.answer_heap.ensures in (heap-answered _ c.in-Some.ensures (w.written, w.upper_bound)).0

pub returns-in-None-clause-written : goal.returns-in-None-clause-written
returns-in-None-clause-written c = (outside-answered _ c.in-None.ensures c.write_outside.ensures).0
