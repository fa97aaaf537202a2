-- The field stopped, its number is 3, or it is a code.
use Rattle.std.proofs.lemmas.Result.{err_from_is_err_and}
use Rattle.image_read.proofs.Made.{code-stopped, code-refused, code-met}
use Rattle.image_read.proofs.parts.read_code.Goals as goal

pub returns-in_err-code : goal.returns-in_err-code
returns-in_err-code c = let p = err_from_is_err_and c.from_residual.result c.from_residual.ensures.1 in rw (p.1, p.2) (code-stopped c.in_err-code.ensures.reads)

pub returns-then-code-eq-NO_CODE : goal.returns-then-code-eq-NO_CODE
returns-then-code-eq-NO_CODE c = rw c.refuse.ensures (code-refused c.in_ok-code.ensures.reads c.requires c.if-code-eq-NO_CODE.true)

pub returns : goal.returns
returns c = code-met c.in_ok-code.ensures.reads c.if-code-eq-NO_CODE.false
