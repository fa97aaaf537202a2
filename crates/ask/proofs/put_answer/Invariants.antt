-- `put_answer` is safe and ends: each part lies within the buffer, and with each fewer are to come.
use Rattle.std.proofs.Common.{◌≡◌, ◌≤◌, length}
use Rattle.ask_answer.specs.Capacity.{text_bytes, window_words}
use Rattle.ask_answer.specs.Run.{to_come}
use Rattle.ask.proofs.put_answer.Given as goal

abbrev pub invariant-loop-following : goal.invariant-loop-following
invariant-loop-following l = (length l.out ≡ text_bytes) × (length l.rows ≡ window_words) × (l.part.length ≤ length l.out)

abbrev pub decreases-loop-following : goal.decreases-loop-following
decreases-loop-following l = to_come l.part.following
