-- A select more is a slot more.
use mathlib.Core.Path.{◌≡◌, sym, ◌∙◌}
use mathlib.Core.List.{map, map-append}
use native.Mathlib.Numerals.{add-one}
use native.Mathlib.Omega.{arith}
use lib.ListN.{length, get_or, take, length-map}
use lib.Seq.{take-suc, length-take-le}
use Rattle.capacity.specs.Capacity.{max_selects}
use Rattle.lists.proofs.Padded.{padded-none, padded-more}
use Rattle.query.specs.Query.{zero_var}
use Rattle.plan.specs.Plan.{zero_slot}
use Rattle.planner.specs.Planning.{slot_of}
use Rattle.planner.proofs.select_slots.Goals as goal

pub loop-i-init : goal.loop-i-init
loop-i-init c = sym (padded-none zero_slot max_selects)

pub loop-i-preserved : goal.loop-i-preserved
loop-i-preserved c =
    let i = c.loop-i.i in
    let chosen = c.args.chosen.now in
    let l : length (map slot_of (take i chosen)) ≡ i = length-map (take i chosen) slot_of ∙ length-take-le i chosen (omega arith) in
    rw (add-one, take-suc chosen i zero_var (omega arith), map-append, c.loop-i.invariant)
    (rw l at (padded-more zero_slot max_selects (map slot_of (take i chosen)) (slot_of (get_or chosen i zero_var)) (omega arith)))
