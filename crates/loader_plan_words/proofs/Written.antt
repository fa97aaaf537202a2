-- A plan written part by part: its counts, its scans, its slots, its selects.
use mathlib.Core.Path.{◌≡◌, refl, ◌∙◌}
use Prim.Native.Nat.{ℕ, ◌*◌}
use mathlib.Core.List.{List, ◌++◌}
use native.Mathlib.Omega.{arith}
use lib.ListN.{length, length-append}
use Rattle.capacity.specs.Capacity.{max_scans, max_slots, max_selects}
use Rattle.lists.specs.Laid.{laid}
use Rattle.lists.proofs.Laid.{laid-length}
use Rattle.plan.specs.declared.Plan.{Plan}
use Rattle.plan.specs.Plan.{Filled}
use Rattle.loader_words.specs.Words.{scan_words, slot_words, scans_at, slots_at, select_at, plan_words}
use Rattle.loader_plan_words.specs.Write.{words_of_scan, words_of_slot, words_of_select, count_words, words_of_plan, put_at}
use Rattle.loader_plan_words.proofs.Laid.{put_next, put_all}

module _ (p : Plan) (full : Filled p) where
  scans-long : length (laid words_of_scan p.scans) ≡ scan_words * max_scans
  scans-long = laid-length words_of_scan scan_words (λ _. refl) p.scans ∙ rw full.many_scans refl

  slots_long : length (laid words_of_slot p.slots) ≡ slot_words * max_slots
  slots_long = laid-length words_of_slot slot_words (λ _. refl) p.slots ∙ rw full.many_slots refl

  selects-long : length (laid words_of_select p.select) ≡ max_selects
  selects-long = laid-length words_of_select 1 (λ _. refl) p.select ∙ rw full.many_selects refl

  pub front_long : length (count_words p ++ laid words_of_scan p.scans) ≡ slots_at
  front_long = length-append (count_words p) (laid words_of_scan p.scans) ∙ rw scans-long refl

  pub middle-long : length (count_words p ++ laid words_of_scan p.scans ++ laid words_of_slot p.slots) ≡ select_at
  middle-long = length-append (count_words p ++ laid words_of_scan p.scans) (laid words_of_slot p.slots) ∙ rw (front_long, slots_long) refl

  pub plan-long : length (words_of_plan p) ≡ plan_words
  plan-long = length-append (count_words p ++ laid words_of_scan p.scans ++ laid words_of_slot p.slots) (laid words_of_select p.select) ∙ rw (middle-long, selects-long) refl

  pub plan-written : (ws counted scanned slotted all : List ℕ) → length ws ≡ plan_words → counted ≡ put_at 0 (count_words p) ws
      → scanned ≡ put_at scans_at (laid words_of_scan p.scans) counted → slotted ≡ put_at slots_at (laid words_of_slot p.slots) scanned
      → all ≡ put_at select_at (laid words_of_select p.select) slotted → all ≡ words_of_plan p
  plan-written ws counted scanned slotted all long a b c d =
      let two = put_next ws (count_words p) (laid words_of_scan p.scans) counted scanned scans_at refl (omega (arith, scans-long, long)) a b in
      let three = put_next ws (count_words p ++ laid words_of_scan p.scans) (laid words_of_slot p.slots) scanned slotted slots_at (omega (arith, front_long)) (omega (arith, slots_long, long)) two c in
      let four = put_next ws (count_words p ++ laid words_of_scan p.scans ++ laid words_of_slot p.slots) (laid words_of_select p.select) slotted all select_at (omega (arith, middle-long)) (omega (arith, selects-long, long)) three d in
      four ∙ put_all ws (words_of_plan p) (omega (arith, plan-long, long))
