-- `copy_bytes` meets its contract: each word is a byte.
use Rattle.std.proofs.Common.{◌∙◌, ◌≡◌, length, arith, refl}
use lib.Seq.{take-length}
use Rattle.ask_question.proofs.Found.{byte_at}
use Rattle.ask_question.proofs.Filled.{copied_more}
use Rattle.ask_question.proofs.copy_bytes.Goals as goal

pub overflow_cast-bytes : goal.overflow_cast-bytes
overflow_cast-bytes c = let b = byte_at c.args.words.now c.loop-i.i c.requires.words_value c.loop-i-test.true in omega arith

pub loop-i-preserved : goal.loop-i-preserved
loop-i-preserved c = let l = c.loop-i in copied_more _ _ _ l.i _ c.loop-i-test.true c.requires.words_in_bounds l.invariant refl

pub returns : goal.returns
returns c =
    let l = c.loop-i in
    let e : l.i ≡ length c.args.words.now = omega arith in
    l.invariant ∙ rw (e, take-length)
