-- What is said of a question, case by case.
use mathlib.Core.Path.{◌≡◌, refl, sym, ap, subst, ◌∙◌}
use mathlib.Core.Bool.{true, false}
use mathlib.Core.List.{List, ◌++◌}
use Prim.Native.Nat.{ℕ, ◌+◌, ◌-◌, ◌≤◌, ◌<◌, ◌^◌}
use native.Mathlib.Omega.{arith}
use borrow.Author.Tests.{leb-true, le-ltb}
use lib.ListN.{length, take, drop, get_or, replicate, length-append, length-replicate}
use lib.Seq.{sets-eq, take-append_seam}
use lib.Dec.{leb}
use Rattle.refusal.specs.Verdict.{Refusal, Verdict, answer}
use Rattle.std.specs.Prelude.{Result, Ok, Err, None}
use Rattle.refusal.proofs.Fine.{or-fine}
use Rattle.query.specs.declared.Query.{Query}
use Rattle.plan.specs.declared.Plan.{Plan}
use Rattle.text_pieces.specs.Written.{largest, Written}
use Rattle.text_pieces.proofs.Written.{written_then}
use Rattle.ask_lines.specs.Lines.{refusal_line, cost_line}
use Rattle.ask_lines.proofs.Lengths.{refusal-short, cost-short}
use Rattle.plan_text.specs.Answered.{Formatted}
use Rattle.plan_text.specs.Text.{text_of}
use Rattle.plan_text.specs.Answer.{text_fault, formatted_of, text_after}
use Rattle.plan_text.proofs.Answers.{text-fits}
use Rattle.visits.specs.Visits.{tables_of}
use Rattle.ask_question.specs.declared.Parts.{Parts}
use Rattle.ask_question.specs.Parts.{parts_of, items_of, are_kinds, are_bytes, inside_with}
use Rattle.ask_question.specs.Asked.{query_with, bytes_after}
use Rattle.ask_question.proofs.Found.{both_true}
use Rattle.ask_question.proofs.Filled.{bytes-all}
use Rattle.ask_plan.specs.declared.Chosen.{Chosen}
use Rattle.ask_plan.specs.Answer.{answer_with, answer_of, said_answer}
use Rattle.ask_opening.specs.declared.Opening.{Opening}
use Rattle.ask_opening.specs.Question.{name_bytes, names_of, is_question, given_ends, ends_of, tables_in}
use Rattle.ask_opening.specs.Opening.{cost_bytes, Said, only, outside, refusal, showing_fault, opened_with, opened, opening_of, Line, Opens}

-- by the parts that were found
module _ (ws : List ℕ) (q : Parts) (found : q ≡ parts_of ws) where
  -- what is planned for the query that is read by them
  pub answer-asked : (t : ℕ) (x : Query) (types : List ℕ) (a : Result Chosen Refusal) → t ≡ get_or ws 0 0 → x ≡ query_with ws q → types ≡ items_of ws q.types
      → a ≡ said_answer (answer_with t x types) → a ≡ said_answer (answer_of ws)
  answer-asked t x types a e f h g = rw (← found, ← h, ← f, ← e) g

  -- their items are the question's names, ends and tables
  pub names-found : {names : List ℕ} → names ≡ items_of ws q.names → names ≡ names_of ws
  names-found e = rw (← found) e

  pub ends_found : {ends : List ℕ} → ends ≡ items_of ws q.ends → ends ≡ given_ends ws
  ends_found e = rw (← found) e

  pub tables-are : (a b c : List ℕ) → a ≡ items_of ws q.aevt → b ≡ items_of ws q.avet → c ≡ items_of ws q.eavt → tables_of a b c ≡ tables_in ws
  tables-are a b c e f g = rw (e, f, g, found)

-- a question's names are bytes, and there is room for them
pub question-names : (ws : List ℕ) → is_question ws ≡ true → (are_bytes (names_of ws) ≡ true) × (length (names_of ws) ≤ name_bytes)
unfolding is_question inside_with
question-names ws e =
    let all = both_true _ _ e in
    let past = both_true (parts_of ws).eavt.inside _ all.0 in
    let task = both_true (leb (length ws) (parts_of ws).eavt.next) _ past.1 in
    let kinds = both_true (leb (get_or ws 0 0) 3) _ task.1 in
    ((both_true (are_kinds (items_of ws (parts_of ws).statements)) _ kinds.1).1, leb-true _ _ all.1)

-- they are read into the front of a buffer
pub names-as-said : (ws given buffer : List ℕ) (p : Plan) (cost room : ℕ) (ends : List ℕ) → is_question ws ≡ true → given ≡ names_of ws
    → buffer ≡ bytes_after given (replicate name_bytes 0) → opened_with ws p cost (take (length given) buffer) ends room ≡ opened_with ws p cost (names_of ws) ends room
names-as-said ws given buffer p cost room ends q e f =
    let named = question-names ws q in
    let zeros : length {A = ℕ} (replicate name_bytes 0) ≡ name_bytes = length-replicate {0} {A = ℕ} name_bytes 0 in
    let front = (bytes-all (names_of ws) (replicate name_bytes 0) (omega (arith, named.1)) named.0).1 in
    let read : take (length given) buffer ≡ names_of ws =
    rw (f, e, ← front) (take-append_seam (names_of ws) (drop (length (names_of ws)) (replicate name_bytes 0))) in
    ap (λ (names : List ℕ). opened_with ws p cost names ends room) read

module _ {l l' : List ℕ} {r : Opening} where
  pub opens_as : {s t : Said} → s ≡ t → Opens s l r l' → Opens t l r l'
  opens_as e o = subst (λ (u : Said). Opens u l r l') e o

  -- a text, and no rows
  pub opens-only : {text : List ℕ} → r.plan ≡ None → Line text l r.length l' → Opens (only text) l r l'
  opens-only e w = record { plan_is = e; line = w }

-- a call's answer says whether it is refused
refused-so : {A : Type 0} (v : Verdict) (x : A) (r : Refusal) → answer v x ≡ Err r → v ≡ Err r
refused-so (Ok tt) x r e = cc
refused-so (Err q) x r e = cc

answered-so : {A : Type 0} (v : Verdict) (x y : A) → answer v x ≡ Ok y → (v ≡ Ok tt) × (x ≡ y)
answered-so (Ok tt) x y e = (refl, cc)
answered-so (Err q) x y e = cc

pub ok-value : {m n : ℕ} → ◌≡◌ {A = Result ℕ Refusal} (Ok m) (Ok n) → m ≡ n
ok-value e = cc

module _ (ws : List ℕ) (room : ℕ) where
  pub said-outside : is_question ws ≡ false → outside ≡ opening_of ws room
  unfolding opening_of
  said-outside e = rw e

  module _ (question : is_question ws ≡ true) where
    pub said-refused : (r : Refusal) → Err r ≡ said_answer (answer_of ws) → refusal (Err r) ≡ opening_of ws room
    unfolding opening_of opened
    said-refused r e = rw (question, refused-so (answer_of ws).verdict _ r (sym e))

    pub said-planned : (a : Chosen) → Ok a ≡ said_answer (answer_of ws) → opened_with ws a.plan a.cost (names_of ws) (ends_of ws a.plan.slot_count) room ≡ opening_of ws room
    unfolding opening_of opened
    said-planned a e =
        let f = answered-so (answer_of ws).verdict _ a (sym e) in
        rw (question, f.0, ← f.1)

module _ (ws : List ℕ) (p : Plan) (names ends : List ℕ) (room : ℕ) where
  module _ (cost : ℕ) (v : Verdict) (e : v ≡ showing_fault ws p names ends room) where
    pub opened-refused : {r : Refusal} → v ≡ Err r → refusal (Err r) ≡ opened_with ws p cost names ends room
    unfolding opened_with
    opened-refused f = rw (← e, f)

    pub opened-fine : v ≡ Ok tt → ◌≡◌ {A = Said} (record { rows = true; plan = p; text = text_of p names ends ++ cost_line cost }) (opened_with ws p cost names ends room)
    unfolding opened_with
    opened-fine f = rw (← e, f)

    pub text-fine : v ≡ Ok tt → text_fault p names ends (room - cost_bytes) ≡ Ok tt
    unfolding showing_fault
    text-fine f = (or-fine (text_fault p names ends (room - cost_bytes)) _ (sym e ∙ f)).0

-- measuring the text gives its refusal
module _ (p : Plan) (names ends : List ℕ) (room : ℕ) where
  abbrev measured : Formatted
  measured = formatted_of p names ends room

  measured-fault : measured.verdict ≡ text_fault p names ends room
  unfolding formatted_of
  measured-fault = grind arith

  pub text-refused : (r : Refusal) → answer measured.verdict measured.length ≡ Err r → Err r ≡ text_fault p names ends room
  text-refused r e = sym (refused-so measured.verdict _ r e) ∙ measured-fault

  pub text-accepted : (n : ℕ) → answer measured.verdict measured.length ≡ Ok n → Ok tt ≡ text_fault p names ends room
  text-accepted n e = sym (answered-so measured.verdict _ n e).0 ∙ measured-fault

-- a text that fits in some room fits in more
wider : (p : Plan) (names ends : List ℕ) (room more : ℕ) → text_fault p names ends room ≡ Ok tt → room ≤ more → text_fault p names ends more ≡ Ok tt
unfolding text_fault
wider p names ends room more e h =
    let f = text-fits p names ends room e in
    let short : length (text_of p names ends) ≤ more = omega (arith, f.1) in
    simp (f.0, le-ltb _ _ short)

-- the plan text is written, and then the cost
module _ (p : Plan) (cost : ℕ) (names ends l : List ℕ) (word : cost < 2 ^ 64) (held : length l ≤ largest) (fine : text_fault p names ends (length l - cost_bytes) ≡ Ok tt) where
  abbrev text : List ℕ
  text = text_of p names ends

  text-written : Written text 0 l (formatted_of p names ends (length l)).length (text_after p names ends l)
  unfolding formatted_of text_after
  text-written =
      let f = wider p names ends (length l - cost_bytes) (length l) fine (omega arith) in
      let short : length text ≤ length l = (text-fits p names ends (length l) f).1 in
      let start : 0 + length text ≡ length text = omega arith in
      rw f (record { position_is = omega arith; buffer_is = sym (sets-eq text l 0 (omega arith) ∙ ap (λ (k : ℕ). text ++ drop k l) start); within = (omega arith, held) })

  -- the text's length is answered
  pub text_formatted : answer (formatted_of p names ends (length l)).verdict (formatted_of p names ends (length l)).length ≡ Ok (formatted_of p names ends (length l)).length
  unfolding formatted_of
  text_formatted = rw (wider p names ends (length l - cost_bytes) (length l) fine (omega arith)) refl

  pub opening-written : (m : ℕ) (l₁ l₂ : List ℕ) (n : ℕ) → m ≡ (formatted_of p names ends (length l)).length → l₁ ≡ text_after p names ends l
      → Written (cost_line cost) m l₁ n l₂ → Line (text ++ cost_line cost) l n l₂
  opening-written m l₁ l₂ n e f w =
      let whole : Written (text ++ cost_line cost) 0 l n l₂ = written_then text-written (rw (e, f) at w) in
      let long = length-append text (cost_line cost) in
      let short : length text ≤ length l - cost_bytes = (text-fits p names ends (length l - cost_bytes) fine).1 in
      let few = cost-short cost word in
      record { is_written = whole; fits = λ h. omega (arith, whole.position_is) }

-- the line of numbers that are not a question
pub outside-written : (l l' : List ℕ) (n : ℕ) → Written outside.text 0 l n l' → Line outside.text l n l'
outside-written l l' n w = record { is_written = w; fits = λ h. omega (arith, w.position_is) }

-- a refusal's line
pub refusal-written : (number place : ℕ) (l l' : List ℕ) (n : ℕ) → number < 2 ^ 8 → place < 2 ^ 64 → Written (refusal_line number place) 0 l n l'
    → Line (refusal_line number place) l n l'
refusal-written number place l l' n b w x =
    let short = refusal-short number place b w in
    record { is_written = x; fits = λ h. omega (arith, x.position_is) }
