-- `words_of_state` meets its contract: each counter is written behind the two numbers.
use Rattle.std.proofs.Common.{◌≡◌, ◌+◌, ◌∙◌, sym, length, length-set, arith, rules}
use Rattle.capacity.specs.Capacity.{max_elements}
use Rattle.loader_swap_words.specs.State.{counters_at, state_words, words_of_state}
use Rattle.loader_swap_words.proofs.Copied.{copied_more, copied_all, counter-word}
use Rattle.loader_swap_words.proofs.words_of_state.Goals as goal

pub loop-i-preserved : goal.loop-i-preserved
loop-i-preserved c =
    let l = c.loop-i in
    let s = c.args.state in
    let long : length s.ks ≡ max_elements = search rules in
    let e : counters_at + (l.i + 1) ≡ counters_at + l.i + 1 = omega arith in
    (length-set l.words _ _ ∙ l.invariant.0, rw e (copied_more l.words (words_of_state s) (counters_at + l.i) _ (omega arith) (omega (arith, long)) (sym (counter-word s l.i)) l.invariant.1))

pub returns : goal.returns
returns c =
    let l = c.loop-i in
    let s = c.args.state in
    let long : length s.ks ≡ max_elements = search rules in
    let last : counters_at + l.i ≡ state_words = omega arith in
    copied_all l.words (words_of_state s) state_words l.invariant.0 (omega (arith, long)) (rw last at l.invariant.1)
