-- `are_bytes` meets its contract.
use Rattle.std.proofs.Common.{rules}
use Rattle.ask_question.proofs.Found.{bytes-are}
use Rattle.ask_question.proofs.are_bytes.Goals as goal

pub returns : goal.returns
returns c = bytes-are _ _ (search rules)
