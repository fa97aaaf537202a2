-- Five words, one after the other, are a scan's.
use Rattle.eval.specs.Words.{words_of}
use Rattle.eval.proofs.Write.{write-five}
use Rattle.eval.proofs.setup.write_scan.Goals as goal

pub returns : goal.returns
unfolding words_of
returns c =
    rw (c.index_code.ensures, c.flow_code.ensures, c.from.ensures, c.from-2.ensures, c.slots.ensures)
    (write-five c.args.words.now c.args.at _ _ _ _ _ c.requires)
