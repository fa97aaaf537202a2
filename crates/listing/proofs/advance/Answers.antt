-- `advance` meets its contract: what is left to be stepped from the scan at hand on gives the answer of the whole.
use Rattle.std.proofs.Common.{◌∙◌, sym, refl, arith}
use Rattle.listing.proofs.Stepping.{new-steps, new-says, wraps-steps, wraps-says, end-steps, end-says}
use Rattle.listing.proofs.advance.Goals as goal

pub returns-then-is_new-clause-says : goal.returns-then-is_new-clause-says
returns-then-is_new-clause-says c =
    sym (c.loop-scan.invariant.says ∙ new-says c.loop-scan.scans c.loop-scan.scan-index (omega arith) _ refl (sym c.is_new_index-is_new.ensures ∙ c.if-is_new.true))

pub returns-then-is_new-clause-steps : goal.returns-then-is_new-clause-steps
returns-then-is_new-clause-steps c =
    sym (c.loop-scan.invariant.steps ∙ new-steps c.loop-scan.scans c.loop-scan.scan-index (omega arith) _ (rw c.next_index-scan.ensures refl) (sym c.is_new_index-is_new.ensures ∙ c.if-is_new.true))

pub loop-scan-preserved : goal.loop-scan-preserved
loop-scan-preserved c =
    let wrapped = sym c.is_new_index-is_new.ensures ∙ c.if-is_new.false in record {
      steps = c.loop-scan.invariant.steps ∙ wraps-steps c.loop-scan.scans c.loop-scan.scan-index (omega arith) _ (rw c.next_index-scan.ensures refl) wrapped;
      says = c.loop-scan.invariant.says ∙ wraps-says c.loop-scan.scans c.loop-scan.scan-index (omega arith) _ (rw c.next_index-scan.ensures refl) wrapped;
    }

pub returns-clause-says : goal.returns-clause-says
returns-clause-says c = sym (c.loop-scan.invariant.says ∙ end-says c.loop-scan.scans c.loop-scan.scan-index (omega arith))

pub returns-clause-steps : goal.returns-clause-steps
returns-clause-steps c = sym (c.loop-scan.invariant.steps ∙ end-steps c.loop-scan.scans c.loop-scan.scan-index (omega arith))
