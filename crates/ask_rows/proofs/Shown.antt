-- A window is shown: its rows' lines are written, and after the last window whether more follow.
use mathlib.Core.Path.{◌≡◌, refl, sym, ◌∙◌}
use mathlib.Core.Bool.{Bool, true, false, false≢true}
use mathlib.Core.List.{List, ◌++◌}
use Prim.Native.Nat.{ℕ, ◌*◌, ◌≤◌, ◌<◌}
use native.Mathlib.Omega.{arith}
use lib.ListN.{length, take}
use lib.Seq.{sets}
use Rattle.refusal.specs.Verdict.{Refusal, Verdict}
use Rattle.std.specs.Prelude.{Ok, Err}
use Rattle.refusal.specs.Verdict.{unless}
use Rattle.plan.specs.declared.Plan.{Plan}
use Rattle.text_pieces.specs.Written.{Written}
use Rattle.text_pieces.proofs.Written.{written_then}
use Rattle.ask_lines.specs.Lines.{row_lines, word_bytes}
use Rattle.visits.specs.Visits.{Tables}
use Rattle.visits.specs.Window.{filled}
use Rattle.eval.specs.Answered.{Evaluated}
use Rattle.eval.specs.Evaluation.{evaluation_fault}
use Rattle.ask_rows.specs.declared.Step.{Step}
use Rattle.ask_rows.proofs.Stepped.{step_falls}
use Rattle.ask_rows.specs.Windows.{lines_of, last_line, shown_of, more_of, step_of, window_step, end_text, window_text, last_bytes, refused_window, shown_window, window_of, rows_after, out_after, Front, Fills, ShowsWindow}

-- the last line is at most so long
end_short : (last more : Bool) → length (end_text last more) ≤ last_bytes
unfolding last_line
end_short true true = omega arith
end_short true false = omega arith
end_short false more = omega arith

module _ {p : Plan} {ts : Tables} {from left : ℕ} {rows rows' : List ℕ} {r : Evaluated} (f : Fills p ts from left rows r rows') where
  -- evaluation is refused
  pub refused-shows : {s : Refusal} {out : List ℕ} → r.verdict ≡ Err s
      → ShowsWindow p ts from left rows out (refused_window r.verdict) rows' out
  unfolding window_of out_after
  refused-shows e =
      let fault : evaluation_fault p ts ≡ Err _ = sym f.verdict_is ∙ e in
      record { answer_is = rw (fault, e) refl; rows_are = f.rows_then; out_is = rw fault refl; fits = λ h. omega arith }

  module _ (verdict : r.verdict ≡ Ok tt) where
    fine : evaluation_fault p ts ≡ Ok tt
    fine = sym f.verdict_is ∙ verdict

    front : Front p ts from left rows r rows'
    front = f.front_in fine

    module _ {at n : ℕ} {out out₁ out₂ : List ℕ} (w : Written (row_lines p.select_count p.select_count (take (r.count * p.select_count) rows')) 0 out at out₁)
        (short : at ≤ word_bytes * length rows') (s : Step) (e : s ≡ step_of r.more r.count from left) (v : Written (end_text s.last r.more) at out₁ n out₂) where
      stepped : s ≡ window_step p ts from left (length rows)
      stepped = e ∙ rw (front.more_is, front.count_is)

      text : row_lines p.select_count p.select_count (take (r.count * p.select_count) rows') ++ end_text s.last r.more ≡ window_text p ts from left (length rows)
      unfolding window_text lines_of
      text = rw (front.words_are, stepped, front.more_is)

      pub shows : ShowsWindow p ts from left rows out (record { verdict = Ok tt; length = n; last = s.last; from = s.from; left = s.left }) rows' out₂
      unfolding window_of out_after
      shows =
          let written : Written (window_text p ts from left (length rows)) 0 out n out₂ = rw text at (written_then w v) in
          record {
            answer_is = rw (fine, stepped, written.position_is);
            rows_are = f.rows_then;
            out_is = rw fine written.buffer_is;
            fits = λ h. omega (arith, f.rows_long, v.position_is, end_short s.last r.more);
          }

-- the answer where evaluation is not refused, and the buffers after it
module _ (p : Plan) (ts : Tables) where
  module _ (fine : evaluation_fault p ts ≡ Ok tt) (from left : ℕ) where
    pub fine-window : (room : ℕ) → window_of p ts from left room ≡ shown_window p ts from left room
    unfolding window_of
    fine-window room = rw fine

    pub fine-rows : (rows : List ℕ) → rows_after p ts from left rows ≡ filled (shown_of p ts from left (length rows)) rows
    unfolding rows_after
    fine-rows rows = rw fine

    pub fine-out : (room : ℕ) (out : List ℕ) → out_after p ts from left room out ≡ sets out 0 (window_text p ts from left room)
    unfolding out_after
    fine-out room out = rw fine

  -- after a window that is not the last, fewer rows are left to show
  pub falls : (from left room : ℕ) → (window_of p ts from left room).last ≡ false → (window_of p ts from left room).left < left
  unfolding window_of
  falls from left room = by_cases (evaluation_fault p ts)
    where
      by_cases : (v : Verdict) → (unless v refused_window (shown_window p ts from left room)).last ≡ false
          → (unless v refused_window (shown_window p ts from left room)).left < left
      by_cases (Err s) e = absurd (false≢true (sym e))
      by_cases (Ok tt) e = step_falls (more_of p ts from left room) (length (shown_of p ts from left room)) from left (window_step p ts from left room) refl e
