-- The windows' texts, one after the other, are the text of all rows; and the next window begins further on.
use mathlib.Core.Path.{◌≡◌, refl, sym, ap, ◌∙◌}
use mathlib.Core.Logic.{⊎_elim}
use mathlib.Core.Bool.{Bool, true, false, cond, false≢true}
use mathlib.Core.List.{List, [], ◌++◌, append-nil, append_assoc}
use Prim.Native.Nat.{ℕ, ◌+◌, ◌-◌, ◌/◌, ◌^◌, ◌≤◌, ◌<◌, min}
use native.Mathlib.Nat.{eq-or-lt_of_le, min-le_right, le-div_iff_mul-le}
use native.Mathlib.Omega.{arith}
use borrow.Author.Tests.{lt-ltb, le-ltb, lt-leb, ne_eqb, ltb-true}
use lib.ListN.{length, take, drop, length-take, length-drop}
use lib.Seq.{take_all, take-add, drop-drop}
use lib.Dec.{ltb, eqb}
use Rattle.capacity.specs.Capacity.{max_selects}
use Rattle.std.specs.Prelude.{Ok}
use Rattle.plan.specs.declared.Plan.{Plan}
use Rattle.text_pieces.specs.Written.{largest}
use Rattle.visits.specs.Visits.{Tables, row_list}
use Rattle.eval.specs.Evaluation.{evaluation_fault}
use Rattle.ask_rows.specs.declared.Step.{Step}
use Rattle.ask_rows.specs.Windows.{lines_of, last_line, rows_text, shown_of, more_of, is_last, window_step, window_text}
use Rattle.ask_rows.proofs.Wide.{wide-take, wide-drop, lines-append}
use Rattle.ask_rows.proofs.InFront.{passed, rows-wide}
use Rattle.ask_rows.proofs.Stepped.{Goes, goes, step-last, step-on, step-numbered}

-- the first of a list, where two counts take as many
take-alike : {A : Type 0} (l : List A) (a b : ℕ) → min a (length l) ≡ min b (length l) → take a l ≡ take b l
take-alike l a b e =
    ⊎_elim (λ (all : min a (length l) ≡ length l). take_all a l (omega arith) ∙ sym (take_all b l (omega arith)))
    (λ (part : min a (length l) < length l). let same : a ≡ b = omega arith in ap (λ (k : ℕ). take k l) same) (eq-or-lt_of_le (min-le_right a (length l)))

goes-on-alike : (a b n : ℕ) → min a n ≡ min b n → ltb a n ≡ ltb b n
goes-on-alike a b n e =
    ⊎_elim (λ (all : min a n ≡ n). rw (le-ltb a n (omega arith), le-ltb b n (omega arith))) (λ (part : min a n < n). rw (lt-ltb a n (omega arith), lt-ltb b n (omega arith)))
    (eq-or-lt_of_le (min-le_right a n))

-- what follows a window
abbrev pub text_after : Plan → Tables → Step → List ℕ
text_after p ts s = cond s.last [] (rows_text p ts s.from s.left)

-- of n rows from number `from` on, where at least one fits and each that is left to show has a number below 2^64: after the last window all
-- that were to be shown are shown
all-are-shown : (n from left fit : ℕ) → 0 < fit → left ≤ 2 ^ 64 - from → (count : ℕ) → count ≡ min (min left fit) n
    → is_last (ltb count n) count from left ≡ true → min left n ≡ count
unfolding is_last
all-are-shown n from left fit some numbered count e last =
    let few : count ≤ min left n = omega arith in
    ⊎_elim (λ (same : count ≡ min left n). sym same)
    (λ (less : count < min left n).
    let more = lt-ltb count n (omega arith) in
    let left_over = lt-leb left count (omega arith) in
    let shown : eqb count 0 ≡ false = ne_eqb count 0 (λ z. omega arith) in
    let number = le-ltb (largest - from) count (omega arith) in
    absurd (false≢true (rw (more, left_over, shown, number) at last))) (eq-or-lt_of_le few)

module _ (p : Plan) (ts : Tables) (selects : length p.select ≡ max_selects) (fine : evaluation_fault p ts ≡ Ok tt) (from left room : ℕ) (fits : p.select_count ≤ room) where
  abbrev width : ℕ
  width = p.select_count

  abbrev rows : List (List ℕ)
  rows = drop from (row_list p ts)

  abbrev fit : ℕ
  fit = room / width

  abbrev count : ℕ
  count = length (shown_of p ts from left room)

  some_select : 0 < width
  some_select = (passed p ts fine).some_select

  some_fit : 0 < fit
  some_fit = (le-div_iff_mul-le some_select).1 (omega arith)

  count_is : count ≡ min (min left fit) (length rows)
  unfolding shown_of
  count_is = length-take (min left fit) rows

  -- the last window
  module _ (numbered : left ≤ 2 ^ 64 - from) (last : is_last (more_of p ts from left room) count from left ≡ true) where
    all_shown : min left (length rows) ≡ count
    unfolding more_of
    all_shown = all-are-shown (length rows) from left fit some_fit numbered count count_is last

    same_rows : take left rows ≡ shown_of p ts from left room
    unfolding shown_of
    same_rows = take-alike rows left (min left fit) (all_shown ∙ count_is)

    same_more : ltb left (length rows) ≡ more_of p ts from left room
    unfolding more_of
    same_more = goes-on-alike left count (length rows) (let c = count_is in let a = all_shown in omega arith)

    last-joined : rows_text p ts from left ≡ window_text p ts from left room ++ text_after p ts (window_step p ts from left room)
    unfolding rows_text window_text
    last-joined =
        rw (← (step-last (more_of p ts from left room) count from left last), same_rows, same_more) (sym (append-nil (lines_of width (shown_of p ts from left room) ++ last_line (more_of p ts from left room))))

  -- a window that another follows
  module _ (on : is_last (more_of p ts from left room) count from left ≡ false) where
    going : Goes (more_of p ts from left room) count from left
    going = goes (more_of p ts from left room) count from left on

    more_rows : count < length rows
    unfolding more_of
    more_rows = ltb-true count (length rows) going.goes_on

    first_rows : shown_of p ts from left room ≡ take count rows
    unfolding shown_of
    first_rows = take-alike rows (min left fit) count (let c = count_is in let m = more_rows in omega arith)

    rest : drop count rows ≡ drop (from + count) (row_list p ts)
    rest = drop-drop count from (row_list p ts)

    split : take left rows ≡ shown_of p ts from left room ++ take (left - count) (drop (from + count) (row_list p ts))
    split =
        let whole : count + (left - count) ≡ left = omega (arith, going.some_left) in
        let parts = take-add count (left - count) rows in
        (rw (whole, rest) at parts) ∙ rw (← first_rows)

    same_end : ltb left (length rows) ≡ ltb (left - count) (length (drop (from + count) (row_list p ts)))
    same_end =
        let short : length (drop (from + count) (row_list p ts)) ≡ length rows - count = ap length (sym rest) ∙ length-drop count rows in
        rw short (later left (length rows) count going.some_left more_rows)
      where
        later : (a n c : ℕ) → c < a → c < n → ltb a n ≡ ltb (a - c) (n - c)
        later a n c h k =
            ⊎_elim (λ (all : min a n ≡ n). rw (le-ltb a n (omega arith), le-ltb (a - c) (n - c) (omega arith)))
            (λ (part : min a n < n). rw (lt-ltb a n (omega arith), lt-ltb (a - c) (n - c) (omega arith))) (eq-or-lt_of_le (min-le_right a n))

    on-joined : rows_text p ts from left ≡ window_text p ts from left room ++ text_after p ts (window_step p ts from left room)
    unfolding rows_text window_text shown_of
    on-joined =
        let wide = wide-take (min left fit) (wide-drop from (rows-wide p ts selects fine)) in
        let lines = lines-append width (shown_of p ts from left room) (take (left - count) (drop (from + count) (row_list p ts))) some_select wide in
        rw (← (step-on (more_of p ts from left room) count from left on), split, same_end, lines, append-nil) (append_assoc (lines_of width (shown_of p ts from left room)) _ _)

    pub further : (from < (window_step p ts from left room).from) × ((window_step p ts from left room).left < left)
    further =
        rw (← (step-on (more_of p ts from left room) count from left on)) (omega (arith, going.some_shown), omega (arith, going.some_shown, going.some_left))

  -- each row that is left to show has a number
  module _ (numbered : left ≤ 2 ^ 64 - from) where
    -- the text of all rows is that of this window and of those after it
    pub joined : rows_text p ts from left ≡ window_text p ts from left room ++ text_after p ts (window_step p ts from left room)
    joined = by_cases (is_last (more_of p ts from left room) count from left) refl
      where
        by_cases : (t : Bool) → is_last (more_of p ts from left room) count from left ≡ t → rows_text p ts from left ≡ window_text p ts from left room ++ text_after p ts (window_step p ts from left room)
        by_cases true e = last-joined numbered e
        by_cases false e = on-joined e

    -- and so has each that is left after it
    pub still-numbered : (window_step p ts from left room).left ≤ 2 ^ 64 - (window_step p ts from left room).from
    still-numbered = step-numbered (more_of p ts from left room) count from left numbered
