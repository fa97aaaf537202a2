-- Five words, one after the other.
use Rattle.loader_plan_words.proofs.Laid.{put_five}
use Rattle.loader_plan_words.proofs.write_scan.Goals as goal

pub returns : goal.returns
returns c = rw (c.index_code.ensures, c.flow_code.ensures) (put_five _ _ _ _ _ _ _ c.requires)
