use mathlib.Core.Path.{sym, ◌∙◌}
use native.Mathlib.Omega.{arith}
use borrow.Author.Tests.{eq-eqb, ne_eqb}
use lib.Seq.{length-take-le}
use Rattle.tables_answer.proofs.Reading.{too_long, no-heap, count_fits, none-read, part-read}
use Rattle.tables_answer.proofs.read_heap.Goals as goal

pub returns-then-text-ge-TEXT_BYTES : goal.returns-then-text-ge-TEXT_BYTES
returns-then-text-ge-TEXT_BYTES c = too_long _ c.if-text-ge-TEXT_BYTES.true

pub returns-in_err-count : goal.returns-in_err-count
returns-in_err-count c = rw c.from_residual.ensures (no-heap _ c.args.words.now (omega arith) c.requires c.in_err-count.ensures.value)

pub slice_bounds-read-end : goal.slice_bounds-read-end
slice_bounds-read-end c =
    sym (length-take-le _ _ (count_fits _ c.args.words.now (omega arith) c.requires c.in_ok-count.ensures.value c.read_words.ensures.words_after))

pub returns-in_err-first : goal.returns-in_err-first
returns-in_err-first c =
    rw c.from_residual-in_err-first.ensures
    (none-read _ c.args.words.now (omega arith) c.requires c.in_ok-count.ensures.value c.read_words.ensures.words_after c.in_err-first.ensures.cases)

pub returns-then-first-heap : goal.returns-then-first-heap
returns-then-first-heap c =
    (part-read _ c.args.words.now (omega arith) c.requires c.in_ok-count.ensures.value c.read_words.ensures.words_after c.in_ok-first.ensures.cases.0).0 ∙ ne_eqb _ _ c.if-first-heap.true

pub returns : goal.returns
returns c =
    let p = part-read _ c.args.words.now (omega arith) c.requires c.in_ok-count.ensures.value c.read_words.ensures.words_after c.in_ok-first.ensures.cases.0 in
    (p.0 ∙ eq-eqb _ _ c.if-first-heap.false, p.1)
