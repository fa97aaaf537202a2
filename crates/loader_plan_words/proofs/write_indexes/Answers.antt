-- One more; and after the last, all that count are written.
use Rattle.std.proofs.Common.{rules, ◌≡◌, ◌∙◌, length, take, sym, ap, List, ℕ, min, arith}
use Rattle.std.proofs.lemmas.List.{take_min}
use Rattle.capacity.specs.Capacity.{max_scans}
use Rattle.plan.specs.declared.Scan.{Scan}
use Rattle.loader_plan_words.specs.Write.{with_indexes}
use Rattle.loader_plan_words.proofs.Indexes.{indexes-more, indexes-done}
use Rattle.loader_plan_words.proofs.write_indexes.Goals as goal

pub loop-i-preserved : goal.loop-i-preserved
loop-i-preserved c = c.loop-i.invariant ∙ rw c.index_code.ensures (indexes-more (take c.min.result c.args.scans) c.loop-i.i c.loop-i.words (omega arith))

pub returns : goal.returns
returns c =
    let h : length c.args.scans ≡ max_scans = search rules in
    let e : take c.min.result c.args.scans ≡ take c.args.scan_count c.args.scans =
    ap (λ (n : ℕ). take n c.args.scans) (c.min.ensures ∙ ap (min c.args.scan_count) (sym h)) ∙ take_min c.args.scan_count c.args.scans in
    sym (ap (λ (s : List Scan). with_indexes s 0 c.args.words.now) (sym e) ∙ c.loop-i.invariant ∙ indexes-done (take c.min.result c.args.scans) c.loop-i.i c.loop-i.words (omega arith))
