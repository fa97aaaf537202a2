-- The parts of the answer from what `opening` and `windows` promise; and with each part fewer are to come.
use mathlib.Core.Path.{◌≡◌, refl, sym, ap, subst, ◌∙◌}
use mathlib.Core.Bool.{Bool, true, false, cond}
use mathlib.Core.List.{List}
use Prim.Native.Nat.{ℕ, ◌+◌, ◌-◌, ◌^◌, ◌<◌, ◌≤◌, min}
use native.Mathlib.Omega.{arith}
use lib.ListN.{length, get_or}
use Rattle.std.specs.Prelude.{Ok, Err, Some, None}
use Rattle.refusal.specs.Verdict.{Verdict, answer}
use Rattle.plan.specs.declared.Plan.{Plan}
use Rattle.ask_question.specs.declared.Parts.{Parts}
use Rattle.ask_question.specs.Parts.{parts_of, items_of}
use Rattle.ask_opening.specs.declared.Opening.{Opening}
use Rattle.ask_opening.specs.Question.{tables_in}
use Rattle.ask_opening.specs.Opening.{opening_of, Opens}
use Rattle.ask_opening.proofs.Said.{tables-are}
use Rattle.visits.specs.Visits.{Tables, tables_of}
use Rattle.ask_rows.specs.Answered.{Window}
use Rattle.ask_rows.specs.Windows.{ShowsWindow, window_of}
use Rattle.ask_rows.proofs.Shown.{falls}
use Rattle.ask_answer.specs.declared.Following.{Following}
use Rattle.ask_answer.specs.declared.Part.{Part}
use Rattle.ask_answer.specs.Answer.{rows_asked}
use Rattle.ask_answer.specs.Parts.{first_part, following_of, part_of, next_part, bytes_in, Begins, GoesOn}
use Rattle.ask_answer.specs.Run.{to_come}

-- what is said of the numbers, and the header's rows
module _ {ws out out' : List ℕ} {o : Opening} (said : Opens (opening_of ws (length out)) out o out') where
  pub begins : {from most left : ℕ} {plan : Plan} → o.plan ≡ Some plan → from ≡ get_or ws 2 0 → most ≡ get_or ws 3 0 → left ≡ min most (2 ^ 64 - from)
      → Begins ws out (record { length = o.length; following = Some (record { plan = plan; from = from; left = left }) }) out'
  unfolding first_part rows_asked
  begins s e f g = record {
    part_is = rw (said.line.is_written.position_is, sym said.plan_is ∙ s, g, f, e) refl;
    out_is = said.line.is_written.buffer_is;
    fits = said.line.fits;
  }

  pub ends_there : o.plan ≡ None → Begins ws out (record { length = o.length; following = None }) out'
  unfolding first_part
  ends_there s = record {
    part_is = rw (said.line.is_written.position_is, sym said.plan_is ∙ s) refl;
    out_is = said.line.is_written.buffer_is;
    fits = said.line.fits;
  }

-- a part is no longer than its window
no-longer : (v : Verdict) (p : Part) (n : ℕ) → p.length ≤ n → bytes_in (answer v p) ≤ n
no-longer (Ok tt) p n h = h
no-longer (Err r) p n h = omega arith

-- the next window of rows, over the items of the tables' parts
pub goes_on : {ws a b c rows out rows' out' : List ℕ} (f : Following) {q : Parts} (w : Window) → q ≡ parts_of ws → a ≡ items_of ws q.aevt → b ≡ items_of ws q.avet → c ≡ items_of ws q.eavt
    → ShowsWindow f.plan (tables_of a b c) f.from f.left rows out w rows' out' → GoesOn ws f rows out (part_of f.plan w) rows' out'
unfolding next_part
goes_on {ws} {a} {b} {c} {rows} {out} {rows'} {out'} p {q} w e f g h s =
    let t = subst (λ (ts : Tables). ShowsWindow p.plan ts p.from p.left rows out w rows' out') (tables-are ws q e a b c f g h) s in
    record { part_is = ap (part_of p.plan) t.answer_is; rows_are = t.rows_are; out_is = t.out_is; fits = λ h. no-longer w.verdict _ _ (t.fits h) }

-- a part that is answered is what is answered
pub part-so : (v : Verdict) (x p : Part) → Ok p ≡ answer v x → p ≡ x
part-so (Ok tt) x p e = cc
part-so (Err r) x p e = cc

-- a run ends: with each part fewer are to come
pub fewer : {ws rows out rows' out' : List ℕ} {f : Following} {p : Part} → GoesOn ws f rows out (Ok p) rows' out' → to_come p.following < f.left + 1
unfolding next_part
fewer {ws} {rows} {f = f} {p = p} g =
    let w : Window = window_of f.plan (tables_in ws) f.from f.left (length rows) in
    let e : p ≡ record { length = w.length; following = following_of f.plan w } = part-so w.verdict _ p g.part_is in
    rw e (by_cases w.last refl)
  where
    by_cases : (t : Bool) → (window_of f.plan (tables_in ws) f.from f.left (length rows)).last ≡ t
        → to_come (cond t None (Some (record { plan = f.plan; from = (window_of f.plan (tables_in ws) f.from f.left (length rows)).from; left = (window_of f.plan (tables_in ws) f.from f.left (length rows)).left }))) < f.left + 1
    by_cases true h = omega arith
    by_cases false h = let less = falls f.plan (tables_in ws) f.from f.left (length rows) h in omega arith
