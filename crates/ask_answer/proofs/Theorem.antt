-- What a run hands over, part after part, is the answer to its text: by induction over the parts, each of which is a window of the rows.
use mathlib.Core.Path.{◌≡◌, refl, sym, ap, ◌∙◌}
use mathlib.Core.Bool.{Bool, true, false, cond}
use mathlib.Core.List.{List, [], ◌++◌}
use Prim.Native.Nat.{ℕ, ◌+◌, ◌-◌, ◌^◌, ◌≤◌, ◌<◌}
use native.Mathlib.Omega.{arith}
use lib.ListN.{length, take, drop}
use lib.Seq.{sets, sets-eq, length-sets, take_at}
use Rattle.capacity.specs.Capacity.{max_selects}
use Rattle.std.specs.Prelude.{Option, None, Some, Result, Ok, Err}
use Rattle.refusal.specs.Verdict.{Refusal}
use Rattle.plan.specs.declared.Plan.{Plan}
use Rattle.text_pieces.specs.Written.{largest, after}
use Rattle.visits.specs.Visits.{Tables}
use Rattle.visits.specs.Window.{filled}
use Rattle.eval.specs.Evaluation.{evaluation_fault}
use Rattle.ask_numbers.specs.Words.{said}
use Rattle.ask_opening.specs.Question.{tables_in}
use Rattle.ask_opening.specs.Opening.{outside, opening_of}
use Rattle.ask_opening.proofs.Follow.{follows}
use Rattle.ask_opening.proofs.Nothing.{nothing-outside}
use Rattle.ask_rows.specs.Windows.{rows_text, shown_of, window_text, shown_window}
use Rattle.ask_rows.proofs.InFront.{passed, rows_stay}
use Rattle.ask_rows.proofs.Shown.{fine-window, fine-rows, fine-out}
use Rattle.ask_rows.proofs.Joined.{joined, still-numbered}
use Rattle.ask_rows.specs.Answered.{Window}
use Rattle.ask_answer.specs.declared.Following.{Following}
use Rattle.ask_answer.specs.declared.Part.{Part}
use Rattle.ask_answer.specs.Capacity.{text_bytes, word_count, window_words}
use Rattle.ask_answer.specs.Answer.{is_read, first_row, rows_asked, answer_for, answer_to}
use Rattle.ask_answer.specs.Parts.{numbers_in, first_part, following_of, part_of, next_part, Begins, GoesOn}
use Rattle.ask_answer.specs.Run.{Rest, Run}
use Rattle.ask_answer.specs.Run.Rest.{ends, stops, goes}
use Rattle.ask_answer.specs.Run.Run.{run}
use Rattle.ask_answer.proofs.Reading.{numbers-read}
use Rattle.ask_answer.proofs.Handed.{part-so}

-- a text that fits stands in front of the buffer that it was written to
front : (text out : List ℕ) (n : ℕ) → n ≡ after 0 (length text) → n ≤ length out → length out < largest → take n (sets out 0 text) ≡ text
front text out n e h k =
    let all : length text ≡ n = omega arith in
    rw (sets-eq text out 0 (omega arith)) (take_at text (drop (0 + length text) out) n all)

-- after the last part nothing is handed over
rest-none : {ws : List ℕ} {n : Option Following} {rows out bytes : List ℕ} → Rest ws n rows out bytes → n ≡ None → bytes ≡ []
rest-none ends e = refl
rest-none (stops g) e = refl
rest-none (goes g r) e = cc

-- after another the rest of the rows of its plan, which evaluation does not refuse
module _ (ws : List ℕ) (p : Plan) (selects : length p.select ≡ max_selects) (fine : evaluation_fault p (tables_in ws) ≡ Ok tt) where
  abbrev ts : Tables
  ts = tables_in ws

  fits : p.select_count ≤ window_words
  fits = let few = (passed p ts fine).few_selects in omega arith

  -- the rows that follow, if any do, are the plan's, and each has a number
  abbrev Follows : Option Following → Type 0
  Follows None = 0 ≤ 0
  Follows (Some f) = (f.plan ≡ p) × (f.left ≤ 2 ^ 64 - f.from)

  -- their text
  abbrev text_in : Option Following → List ℕ
  text_in None = []
  text_in (Some f) = rows_text p ts f.from f.left

  -- the next part, with its bytes and the buffers after it
  record Next (f : Following) (r : Part) (rows' out' : List ℕ) : Type 0 where
    step_is : r ≡ record { length = (shown_window p ts f.from f.left window_words).length; following = following_of p (shown_window p ts f.from f.left window_words) }
    bytes_are : take r.length out' ≡ window_text p ts f.from f.left window_words
    rows_long : length rows' ≡ window_words
    out_long : length out' ≡ text_bytes

  -- evaluation is not refused
  unrefused : {f : Following} {r : Refusal} {rows out rows' out' : List ℕ} → GoesOn ws f rows out (Err r) rows' out' → f.plan ≡ p → length rows ≡ window_words → ⊥
  unfolding next_part
  unrefused {f} {r} g same many =
      let part : ◌≡◌ {A = Result Part Refusal} (Err r) (part_of p (shown_window p ts f.from f.left window_words)) =
      g.part_is ∙ rw (same, many, fine-window p ts fine f.from f.left window_words) refl in
      let z : ◌≡◌ {A = ℕ} 0 1 = cc in
      omega arith

  next : {f : Following} {r : Part} {rows out rows' out' : List ℕ} → GoesOn ws f rows out (Ok r) rows' out' → f.plan ≡ p → length rows ≡ window_words → length out ≡ text_bytes → Next f r rows' out'
  unfolding next_part
  next {f} {r} {rows} {out} {rows'} {out'} g same many room =
      let text = window_text p ts f.from f.left window_words in
      let part : ◌≡◌ {A = Result Part Refusal} (Ok r) (part_of p (shown_window p ts f.from f.left window_words)) =
      g.part_is ∙ rw (same, many, fine-window p ts fine f.from f.left window_words) refl in
      let step : r ≡ record { length = (shown_window p ts f.from f.left window_words).length; following = following_of p (shown_window p ts f.from f.left window_words) } = part-so (Ok tt) _ r part in
      let written : out' ≡ sets out 0 text = g.out_is ∙ rw (same, many, fine-out p ts fine f.from f.left window_words out) refl in
      let with_rows : rows' ≡ filled (shown_of p ts f.from f.left (length rows)) rows = g.rows_are ∙ rw (same, fine-rows p ts fine f.from f.left rows) refl in
      let long : r.length ≡ after 0 (length text) = ap (λ (x : Part). x.length) step in
      record {
        step_is = step;
        bytes_are = rw written (front text out r.length long (omega (arith, g.fits (omega arith))) (omega arith));
        rows_long = ap length with_rows ∙ rows_stay p ts selects f.from f.left rows fine ∙ many;
        out_long = ap length written ∙ length-sets out 0 text ∙ room;
      }

  still-follow : (t : Bool) (f : Following) → f.plan ≡ p → f.left ≤ 2 ^ 64 - f.from → Follows (cond t None (Some f))
  still-follow true f e h = omega arith
  still-follow false f e h = (e, h)

  text-cond : (t : Bool) (f : Following) → text_in (cond t None (Some f)) ≡ cond t [] (rows_text p ts f.from f.left)
  text-cond true f = refl
  text-cond false f = refl

  rest_is : {n : Option Following} {rows out bytes : List ℕ} → Rest ws n rows out bytes → Follows n → length rows ≡ window_words → length out ≡ text_bytes → bytes ≡ text_in n
  rest_is ends all many room = refl
  rest_is (stops g) all many room = absurd (unrefused g all.0 many)
  rest_is (goes {f = f} {p = r} g rest) all many room =
      let w : Window = shown_window p ts f.from f.left window_words in
      let n = next g all.0 many room in
      let after : Follows r.following = rw n.step_is (still-follow w.last _ refl (still-numbered p ts selects fine f.from f.left window_words fits all.1)) in
      let later = rest_is rest after n.rows_long n.out_long in
      let next_text = text-cond w.last (record { plan = p; from = w.from; left = w.left }) in
      rw (n.bytes_are, later, n.step_is, next_text) (sym (joined p ts selects fine f.from f.left window_words fits all.1))

-- of numbers: the first part and the rest are the answer for them
numbers-answered : {ws out out' rows bytes : List ℕ} {q : Part} → length out ≡ text_bytes → length rows ≡ window_words → Begins ws out q out' → Rest ws q.following rows out' bytes
    → take q.length out' ++ bytes ≡ answer_for ws
unfolding answer_for first_part rows_asked
numbers-answered {ws} {out} {out'} {rows} {bytes} {q} room many b rest =
    let s = opening_of ws text_bytes in
    let part : q ≡ first_part ws text_bytes = b.part_is ∙ rw room refl in
    let written : out' ≡ sets out 0 s.text = b.out_is ∙ rw room refl in
    let said : take q.length out' ≡ s.text =
    rw written (front s.text out q.length (ap (λ (x : Part). x.length) part) (b.fits (omega arith)) (omega arith)) in
    let rows_are : bytes ≡ cond s.rows (rows_text s.plan (tables_in ws) (first_row ws) (rows_asked ws)) [] = by_cases (ap (λ (x : Part). x.following) part) written s.rows refl in
    rw (said, rows_are) refl
  where
    by_cases : q.following ≡ (first_part ws text_bytes).following → out' ≡ sets out 0 (opening_of ws text_bytes).text → (t : Bool) → (opening_of ws text_bytes).rows ≡ t
        → bytes ≡ cond t (rows_text (opening_of ws text_bytes).plan (tables_in ws) (first_row ws) (rows_asked ws)) []
    by_cases next written false e = rest-none rest (next ∙ rw e refl)
    by_cases next written true e =
        let f = follows ws text_bytes in
        let long : length out' ≡ text_bytes = ap length written ∙ length-sets out 0 (opening_of ws text_bytes).text ∙ room in
        let first : Following = record { plan = (opening_of ws text_bytes).plan; from = first_row ws; left = rows_asked ws } in
        let there : q.following ≡ Some first = next ∙ rw e refl in
        rest_is ws (opening_of ws text_bytes).plan f.selects (f.fine e) (rw there at rest) (refl, omega arith) many long

-- no numbers are outside the layout
none-answered : answer_for [] ≡ outside.text
unfolding answer_for
none-answered = rw (nothing-outside text_bytes) refl

-- so is a text that is not read
answer-read : (text : List ℕ) → answer_for (numbers_in text word_count) ≡ answer_to text
unfolding numbers_in answer_to
answer-read text = by_cases (is_read text word_count)
  where
    by_cases : (t : Bool) → answer_for (cond t (said text).words []) ≡ cond t (answer_for (said text).words) outside.text
    by_cases true = refl
    by_cases false = none-answered

-- the bytes of a whole run are the answer to its text
pub run-answers : {text bytes : List ℕ} → Run text bytes → bytes ≡ answer_to text
run-answers {text} (run {words' = words'} {count = count} words_long out_long rows_long r b rest) =
    let read : take count words' ≡ numbers_in text word_count = rw words_long at (numbers-read r) in
    numbers-answered out_long rows_long b rest ∙ ap answer_for read ∙ answer-read text
