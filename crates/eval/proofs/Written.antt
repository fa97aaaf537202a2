-- A plan written out as words, values and numbers: it can run, and the rows that then come are its rows.
use mathlib.Core.Path.{◌≡◌, refl, sym, ap, ◌∙◌}
use mathlib.Core.Bool.{Bool}
use mathlib.Core.List.{List, [], ◌∷◌, map}
use Prim.Native.Nat.{ℕ, ◌*◌, ◌<◌, ◌≤◌}
use native.Mathlib.Omega.{arith}
use lib.ListN.{length, get_or, length-map, length-take, get_or-map}
use Rattle.capacity.specs.Capacity.{max_scans}
use Rattle.plan.specs.declared.Slot.{Slot}
use Rattle.plan.specs.declared.SlotRecord.{SlotRecord}
use Rattle.plan.specs.declared.Plan.{Plan}
use Rattle.plan.specs.Plan.{scans_of, slots_of, slots_selected, zero_slot}
use Rattle.visits.specs.Visits.{Tables, start_value, visits, slots_at, initial_slots, row_list, selected}
use Rattle.visits.specs.Pending.{iter_words}
use Rattle.visits.proofs.Steady.{promised-sound}
use Rattle.eval.specs.Words.{words_of, scans_in, Laid}
use Rattle.eval.proofs.Words.{scans-back}
use Rattle.eval.specs.Next.{Named, selected_by, rows_at, Shows}
use Rattle.eval.specs.Evaluation.{values_of, numbers_of, Evaluable, Roomy, RoomFor}

-- a plan that can be evaluated has room in a state that has room for any
pub room_for : {p : Plan} {ts : Tables} {words initial selects iters slots : ℕ} → Evaluable p ts → Roomy words initial selects iters slots
    → RoomFor p words initial selects slots
room_for ok room = record {
  counted = record { few_scans = ok.promised.few_scans; few_slots = ok.promised.few_slots; few_selects = ok.promised.few_selects };
  words_fit = omega (arith, ok.promised.few_scans, room.words_room);
  initial_fit = omega (arith, ok.promised.few_slots, room.initial_room);
  selects_fit = omega (arith, ok.promised.few_selects, room.selects_room);
  slots_fit = omega (arith, ok.promised.few_slots, room.slots_room);
}

selected-numbers : (ks : List Slot) (slots : List ℕ) → selected_by (numbers_of ks) slots ≡ selected ks slots
selected-numbers [] slots = refl
selected-numbers (k ∷ ks) slots = ap (λ (l : List ℕ). get_or slots k.0 0 ∷ l) (selected-numbers ks slots)

rows_same : (p : Plan) (ts : Tables) (ws : List (List ℕ)) → rows_at ts (scans_of p) (initial_slots p) (numbers_of (slots_selected p)) ws
    ≡ map (λ w. selected (slots_selected p) (slots_at ts (scans_of p) (initial_slots p) w)) ws
rows_same p ts [] = refl
rows_same p ts (w ∷ ws) = rw (selected-numbers (slots_selected p) (slots_at ts (scans_of p) (initial_slots p) w), rows_same p ts ws)

module _ {p : Plan} {ts : Tables} (ok : Evaluable p ts) (ws values ks : List ℕ) (w : ws ≡ words_of (scans_of p)) (v : values ≡ values_of (slots_of p))
    (n : ks ≡ numbers_of (slots_selected p)) where
  scans-are : scans_in ws ≡ scans_of p
  scans-are = ap scans_in w ∙ scans-back (scans_of p)

  values_length : length values ≡ length (slots_of p)
  values_length = ap length v ∙ length-map (slots_of p) (λ (s : SlotRecord). start_value s.definition)

  numbers-length : length ks ≡ length (slots_selected p)
  numbers-length = ap length n ∙ length-map (slots_selected p) (λ (k : Slot). k.0)

  pub layout-laid : Laid ws (length values)
  layout-laid = record {
    words_are = w ∙ ap words_of (sym scans-are);
    sound = rw (scans-are, values_length) (promised-sound p ok.promised);
  }

  pub layout-scans : 0 < length (scans_in ws)
  layout-scans = rw scans-are ok.some_scan

  pub layout-iters : (room : ℕ) → iter_words * max_scans ≤ room → iter_words * length (scans_in ws) ≤ room
  layout-iters room l = rw (scans-are, length-take p.scan_count p.scans) (omega (arith, ok.promised.few_scans))

  pub layout-named : Named ks (length values)
  layout-named j l =
      rw (values_length, n, get_or-map (λ (k : Slot). k.0) (slots_selected p) j zero_slot)
      (ok.promised.selects_named j (omega (arith, numbers-length)))

  pub layout-selects : 0 < length ks
  layout-selects = rw numbers-length ok.some_select

  pub layout-shows : (k : ℕ) (buffer buffer' : List ℕ) (count : ℕ) (more : Bool)
      → Shows (rows_at ts (scans_in ws) values ks (visits ts (scans_in ws) values)) (length ks) k buffer count more buffer'
      → Shows (row_list p ts) (length (slots_selected p)) k buffer count more buffer'
  unfolding row_list
  layout-shows k buffer buffer' count more s = rw (← (rows_same p ts (visits ts (scans_of p) (initial_slots p)))) (rw (numbers-length, scans-are, v, n) at s)
