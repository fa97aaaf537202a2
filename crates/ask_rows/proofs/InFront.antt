-- The rows of a window lie in front of the buffer that was lent for them.
use mathlib.Core.Path.{◌≡◌, refl, sym, ap, ◌∙◌}
use mathlib.Core.List.{List, ◌++◌, append_assoc}
use Prim.Native.Nat.{ℕ, ◌*◌, ◌/◌, ◌≤◌, ◌<◌, min}
use native.Mathlib.Nat.{div-mul-le_self, mul-div_cancel, mul-le-mul_right, min-le_right, eq-or-lt_of_le}
use mathlib.Core.Logic.{⊎_elim}
use native.Mathlib.Omega.{arith}
use borrow.Author.Tests.{lt-ltb, le-ltb}
use lib.ListN.{length, take, drop, length-append, length-take, length-drop, length-map, take-append-drop}
use lib.Seq.{length-take-le, drop-append-le, take_at}
use lib.Dec.{ltb}
use Rattle.capacity.specs.Capacity.{max_selects}
use Rattle.refusal.specs.Verdict.{Refusal, Verdict}
use Rattle.std.specs.Prelude.{Ok, Err}
use Rattle.refusal.proofs.Fine.{or-fine}
use Rattle.plan.specs.declared.Plan.{Plan}
use Rattle.plan.specs.Plan.{scans_of, slots_selected}
use Rattle.plan_check.specs.Check.{check_of}
use Rattle.plan_check.specs.Promised.{Promised}
use Rattle.plan_check.proofs.Promises.{promises}
use Rattle.tables.specs.Rows.{flat}
use Rattle.visits.specs.Visits.{Tables, initial_slots, slots_at, selected, visits, row_list}
use Rattle.visits.specs.Window.{window, follows, filled}
use Rattle.eval.specs.Answered.{Evaluated}
use Rattle.eval.specs.Evaluation.{evaluation_fault, evaluate_of, buffer_after, said_rows}
use Rattle.ask_rows.specs.Windows.{shown_of, more_of, rows_after, Fills, evaluated_of}
use Rattle.ask_rows.proofs.Wide.{Wide, wide-take, wide-drop, wide-map, flat_long}

-- a plan that is not refused has passed the check
pub passed : (p : Plan) (ts : Tables) → evaluation_fault p ts ≡ Ok tt → Promised p
unfolding evaluation_fault
passed p ts e = promises p (or-fine (check_of p) _ e).0

module _ (p : Plan) (ts : Tables) (selects : length p.select ≡ max_selects) where
  abbrev width : ℕ
  width = p.select_count

  module _ (fine : evaluation_fault p ts ≡ Ok tt) where
    pub selects-long : length (slots_selected p) ≡ width
    selects-long = let few = (passed p ts fine).few_selects in length-take-le width p.select (omega arith)

    pub rows-wide : Wide width (row_list p ts)
    unfolding row_list
    rows-wide =
        wide-map width (λ w. selected (slots_selected p) (slots_at ts (scans_of p) (initial_slots p) w)) (λ w. length-map (slots_selected p) _ ∙ selects-long) (visits ts (scans_of p) (initial_slots p))

-- the words of as many rows as are shown lie within the buffer
pub room_within : (left width size : ℕ) → min left (size / width) * width ≤ size
room_within left width size =
    let a : min left (size / width) * width ≤ size / width * width = mul-le-mul_right width (min-le_right left (size / width)) in
    omega (arith, div-mul-le_self size width)

-- evaluation's answer, as a record
pub evaluated : (p : Plan) (ts : Tables) (k room : ℕ) → evaluated_of (said_rows (evaluate_of p ts k room)) ≡ evaluate_of p ts k room
unfolding evaluate_of
evaluated p ts k room = grind arith

-- another follows the first k of a list where there are more than k
shorter : {A : Type 0} (k : ℕ) (l : List A) → ltb k (length l) ≡ ltb (length (take k l)) (length l)
shorter k l =
    ⊎_elim (λ (e : min k (length l) ≡ length l). rw (le-ltb k (length l) (omega arith), le-ltb (length (take k l)) (length l) (omega (arith, length-take k l))))
    (λ (h : min k (length l) < length l). rw (lt-ltb k (length l) (omega arith), lt-ltb (length (take k l)) (length l) (omega (arith, length-take k l))))
    (eq-or-lt_of_le (min-le_right k (length l)))

-- what was written to a part of a buffer, and what lay past it
rest-as-it-was : (xs rows : List ℕ) (room : ℕ) → length xs ≤ room → room ≤ length rows
    → (xs ++ drop (length xs) (take room rows)) ++ drop room rows ≡ xs ++ drop (length xs) rows
rest-as-it-was xs rows room h k =
    let long : length (take room rows) ≡ room = length-take-le room rows k in
    let whole : drop (length xs) (take room rows ++ drop room rows) ≡ drop (length xs) (take room rows) ++ drop room rows =
    drop-append-le (length xs) (take room rows) (drop room rows) (omega arith) in
    append_assoc xs (drop (length xs) (take room rows)) (drop room rows) ∙ ap (λ (l : List ℕ). xs ++ l) (sym whole ∙ ap (drop (length xs)) (take-append-drop room rows))

module _ (p : Plan) (ts : Tables) (selects : length p.select ≡ max_selects) (from left : ℕ) (rows : List ℕ) where
  abbrev room : ℕ
  room = min left (length rows / p.select_count) * p.select_count

  abbrev shown : List (List ℕ)
  shown = shown_of p ts from left (length rows)

  -- what evaluation answers for the part of the buffer that is lent
  abbrev pub Answered : ℕ → Type 0
  Answered n = (r : Evaluated) (part : List ℕ) → r ≡ evaluate_of p ts from (length (take n rows)) → part ≡ buffer_after p ts from (take n rows)
      → Fills p ts from left rows r (part ++ drop n rows)

  module _ {s : Refusal} (refused : evaluation_fault p ts ≡ Err s) where
    refused-fills : Answered room
    unfolding evaluate_of buffer_after rows_after
    refused-fills r part f g =
        let verdict : r.verdict ≡ Err s = rw (f, refused) refl in
        let count : r.count ≡ 0 = rw (f, refused) refl in
        let words : r.count * p.select_count ≡ 0 = rw count (omega arith) in
        let same : part ≡ take room rows = rw (g, refused) refl in
        let whole : part ++ drop room rows ≡ rows = rw same (take-append-drop room rows) in
        record {
          verdict_is = verdict ∙ sym refused;
          rows_then = rw refused whole;
          rows_long = ap length whole;
          words_fit = omega arith;
          front_in = λ fine. let z : ◌≡◌ {A = ℕ} 0 1 = cc in absurd (omega arith);
        }

  module _ (fine : evaluation_fault p ts ≡ Ok tt) where
    abbrev wide : length (slots_selected p) ≡ p.select_count
    wide = selects-long p ts selects fine

    lent : length (take room rows) ≡ room
    lent = length-take-le room rows (room_within left p.select_count (length rows))

    fitting : length (take room rows) / length (slots_selected p) ≡ min left (length rows / p.select_count)
    fitting = rw (lent, wide) (mul-div_cancel _ (passed p ts fine).some_select)

    same-window : window (row_list p ts) (length (slots_selected p)) from (length (take room rows)) ≡ shown
    unfolding window shown_of
    same-window = rw fitting

    same_more : follows (row_list p ts) (length (slots_selected p)) from (length (take room rows)) ≡ more_of p ts from left (length rows)
    unfolding more_of shown_of
    same_more = rw fitting (shorter (min left (length rows / p.select_count)) (drop from (row_list p ts)))

    shown-wide : Wide p.select_count shown
    unfolding shown_of
    shown-wide = wide-take (min left (length rows / p.select_count)) (wide-drop from (rows-wide p ts selects fine))

    shown-few : length shown * p.select_count ≤ room
    unfolding shown_of
    shown-few = mul-le-mul_right p.select_count (omega (arith, length-take (min left (length rows / p.select_count)) (drop from (row_list p ts))))

    words-few : length (flat shown) ≤ length rows
    words-few = omega (arith, flat_long shown-wide, shown-few, room_within left p.select_count (length rows))

    -- the buffer stays as long
    pub rows_stay : length (filled shown rows) ≡ length rows
    rows_stay = length-append (flat shown) (drop (length (flat shown)) rows) ∙ rw (length-drop (length (flat shown)) rows) (omega (arith, words-few))

    fine-fills : Answered room
    unfolding evaluate_of buffer_after rows_after
    fine-fills r part f g =
        let verdict : r.verdict ≡ Ok tt = rw (f, fine) refl in
        let count : r.count ≡ length shown = rw (f, fine, same-window) refl in
        let more : r.more ≡ more_of p ts from left (length rows) = rw (f, fine) same_more in
        let long : length (flat shown) ≡ length shown * p.select_count = flat_long shown-wide in
        let within = room_within left p.select_count (length rows) in
        let front : part ≡ filled shown (take room rows) = rw (g, fine, same-window) refl in
        let all : part ++ drop room rows ≡ filled shown rows = rw front (rest-as-it-was (flat shown) rows room (omega (arith, shown-few)) within) in
        record {
          verdict_is = verdict ∙ sym fine;
          rows_then = rw fine all;
          rows_long = ap length all ∙ rows_stay;
          words_fit = rw count (omega (arith, shown-few));
          front_in = λ e. record {
            count_is = count;
            more_is = more;
            words_are = rw (count, all) (take_at (flat shown) (drop (length (flat shown)) rows) (length shown * p.select_count) long);
          };
        }

  pub fills : (n : ℕ) → n ≡ room → Answered n
  fills n e = rw e (by_cases (evaluation_fault p ts) refl)
    where
      by_cases : (v : Verdict) → evaluation_fault p ts ≡ v → Answered room
      by_cases (Ok tt) e = fine-fills e
      by_cases (Err s) e = refused-fills e
