-- What is written: a part and three of them are short, and what was built, or refused, is the answer.
use mathlib.Core.Path.{◌≡◌, refl, sym, ap, ◌∙◌}
use mathlib.Core.Bool.{Bool, true, false, not, ◌||◌}
use mathlib.Core.List.{List, ◌++◌}
use Prim.Native.Nat.{ℕ, ◌+◌, ◌*◌, ◌%◌, ◌^◌, ◌≤◌, ◌<◌}
use native.Mathlib.Omega.{arith}
use lib.ListN.{length, take, drop, get_or, length-append}
use lib.Seq.{take_all, take_at}
use lib.Dec.{ltb, eqb}
use Rattle.refusal.specs.Verdict.{Refusal, Verdict}
use Rattle.std.specs.Prelude.{Ok, Err}
use Rattle.refusal.specs.Verdict.{refuse_if, or_else, unless, answer, number_in}
use Rattle.datom.specs.Fact.{words, aevt_row, avet_row, eavt_row}
use Rattle.text_pieces.specs.Ascii.{ascii}
use Rattle.text_pieces.specs.Decimal.{decimal}
use Rattle.text_pieces.specs.Written.{Written}
use Rattle.ask_lines.specs.Lines.{outside_line, refusal_line, refusal_text, row_lines, word_bytes}
use Rattle.ask_lines.proofs.Lengths.{word-short, refusal-short, rows_short}
use Rattle.tables.specs.Rows.{flat}
use Rattle.tables_build.specs.Answered.{Built}
use Rattle.tables_build.specs.Build.{heap_fault, built_rows, build_of, built_over}
use Rattle.tables_build.proofs.Theorem.{aevt-long, avet-long, eavt-long}
use Rattle.tables_answer.specs.Capacity.{heap_words, answer_bytes}
use Rattle.tables_answer.specs.Answer.{holds_heap, heap_in, table_part, table_parts, heap_answer_for, heap_answer_to}

-- a text is written to the front of a buffer, and is no longer than an answer can be
abbrev pub Answered : List ℕ → List ℕ → ℕ → List ℕ → Type 0
Answered text out n out' = Written text 0 out n out' × (n ≤ answer_bytes)

-- a part has a line for its count, and then its words
pub part-short : (t : List ℕ) → length t < 2 ^ 64 → ((i : ℕ) → get_or t i 0 < 2 ^ 64) → length (table_part t) ≤ word_bytes * (1 + length t)
unfolding table_part
part-short t n h =
    let a = word-short (length t) n in
    let b = rw (take_all (length t) t (omega arith)) at (rows_short (length t) words words t h) in
    simp length-append (omega arith)

-- the count's line, and then the rows
pub part-written : (t : List ℕ) {l l' : List ℕ} {at at' : ℕ} → Written (decimal (length t) ++ ascii "\n" ++ row_lines words words t) at l at' l' → length t < 2 ^ 64 → ((i : ℕ) → get_or t i 0 < 2 ^ 64)
    → Written (table_part t) at l at' l' × (at' ≤ at + word_bytes * (1 + length t))
unfolding table_part
part-written t w n h = (w, omega (arith, part-short t n h, w.position_is))

-- a buffer's front after building
module _ (rows : List (List ℕ)) (t : List ℕ) {v : Verdict} {t' : List ℕ} {n : ℕ} (fine : v ≡ Ok tt) (e : t' ≡ built_over v rows t) (long : length (flat rows) ≡ n) where
  laid : t' ≡ flat rows ++ drop (words * length rows) t
  laid = e ∙ rw fine refl

  fits : n ≤ length t'
  fits = rw laid (omega (arith, length-append (flat rows) (drop (words * length rows) t)))

  front : take n t' ≡ flat rows
  front = rw laid (take_at (flat rows) (drop (words * length rows) t) n long)

module _ (h : List ℕ) (a b c : ℕ) {r : Built} (e : r ≡ build_of h a b c) where
  verdict_is : r.verdict ≡ heap_fault (length h) a b c
  verdict_is = go (heap_fault (length h) a b c) e
    where
      go : (v : Verdict) → r ≡ unless {A = Built} v (λ w. record { verdict = w; count = 0 }) (record { verdict = Ok tt; count = length (built_rows aevt_row h) }) → r.verdict ≡ v
      go (Ok tt) p = ap (λ (x : Built). x.verdict) p
      go (Err q) p = ap (λ (x : Built). x.verdict) p

  module _ (fine : r.verdict ≡ Ok tt) where
    count_is : r.count * words ≡ words * length (built_rows aevt_row h)
    count_is =
        let built : r ≡ record { verdict = Ok tt; count = length (built_rows aevt_row h) } = e ∙ rw (sym verdict_is ∙ fine) refl in
        let many : r.count ≡ length (built_rows aevt_row h) = ap (λ (x : Built). x.count) built in
        omega arith

    -- the rows fit
    count_fits : {t : List ℕ} (t₀ : List ℕ) → t ≡ built_over r.verdict (built_rows aevt_row h) t₀ → r.count * words ≤ length t
    count_fits t₀ p = fits (built_rows aevt_row h) t₀ fine p (aevt-long h ∙ sym count_is)

-- the longest refusal line of a heap
fault-short : (s t : Bool) → length (refusal_text (or_else (refuse_if s 70 0) (refuse_if t 71 0))) ≤ answer_bytes
fault-short true t = omega (arith, refusal-short 70 0 (omega arith) (omega arith))
fault-short false true = omega (arith, refusal-short 71 0 (omega arith) (omega arith))
fault-short false false = omega arith

module _ (h : List ℕ) (a b c : ℕ) {n : ℕ} {r : Built} {out out' : List ℕ} (p : a ≡ heap_words) (q : b ≡ heap_words) (s : c ≡ heap_words) (e : r ≡ build_of h a b c) where
  -- refused: its line
  pub answer-refused : {x : Refusal} → r.verdict ≡ Err x → Written (refusal_line (number_in x.rule) x.place) 0 out n out' → Answered (heap_answer_for h) out n out'
  unfolding heap_answer_for
  answer-refused {x} f w =
      let fault : heap_fault (length h) heap_words heap_words heap_words ≡ Err x = rw (p, q, s) at (sym (verdict_is h a b c e) ∙ f) in
      let short : length (refusal_line (number_in x.rule) x.place) ≤ answer_bytes = rw fault at (fault-short (not (eqb (length h % words) 0)) (ltb heap_words (length h) || ltb heap_words (length h) || ltb heap_words (length h))) in
      (rw fault w, omega (arith, w.position_is))

  -- else the fronts of the buffers
  pub answer-built : (a₀ b₀ c₀ : List ℕ) {a' b' c' : List ℕ} → r.verdict ≡ Ok tt → a' ≡ built_over r.verdict (built_rows aevt_row h) a₀ → b' ≡ built_over r.verdict (built_rows avet_row h) b₀
      → c' ≡ built_over r.verdict (built_rows eavt_row h) c₀
      → Answered (table_parts (take (r.count * words) a') (take (r.count * words) b') (take (r.count * words) c')) out n out' → Answered (heap_answer_for h) out n out'
  unfolding heap_answer_for
  answer-built a₀ b₀ c₀ fine x y z w =
      let fault : heap_fault (length h) heap_words heap_words heap_words ≡ Ok tt = rw (p, q, s) at (sym (verdict_is h a b c e) ∙ fine) in
      let many = count_is h a b c e fine in
      rw fault (rw (front (built_rows aevt_row h) a₀ fine x (aevt-long h ∙ sym many), front (built_rows avet_row h) b₀ fine y (avet-long h ∙ sym many), front (built_rows eavt_row h) c₀ fine z (eavt-long h ∙ sym many)) at w)

-- of a text
module _ (text : List ℕ) {n : ℕ} {out out' : List ℕ} where
  pub outside-answered : holds_heap text ≡ false → Written outside_line 0 out n out' → Answered (heap_answer_to text) out n out'
  unfolding heap_answer_to
  outside-answered e w = (rw e w, omega (arith, w.position_is))

  pub heap-answered : {h : List ℕ} → (holds_heap text ≡ true) × (h ≡ heap_in text) → Answered (heap_answer_for h) out n out' → Answered (heap_answer_to text) out n out'
  unfolding heap_answer_to
  heap-answered e w = rw e.0 (rw e.1 at w)

-- what an answer says of the verdict that it is made of
answer-fine : (v : Verdict) (k n : ℕ) → Ok n ≡ answer v k → (v ≡ Ok tt) × (k ≡ n)
answer-fine (Ok tt) k n e = (refl, cc)
answer-fine (Err r) k n e = absurd (let z : ◌≡◌ {A = ℕ} 0 1 = cc in omega arith)

answer-err : (v : Verdict) (k : ℕ) (x : Refusal) → Err x ≡ answer v k → v ≡ Err x
answer-err (Ok tt) k x e = absurd (let z : ◌≡◌ {A = ℕ} 0 1 = cc in omega arith)
answer-err (Err r) k x e = cc

-- three buffers a₀, b₀, c₀ in which the tables of a heap were built
abbrev pub told : List ℕ → List ℕ → List ℕ → List ℕ → Built
told h a₀ b₀ c₀ = build_of h (length a₀) (length b₀) (length c₀)

module _ (h a₀ b₀ c₀ a b c : List ℕ) where
  pub rows-fit : {n : ℕ} → Ok n ≡ answer (told h a₀ b₀ c₀).verdict (told h a₀ b₀ c₀).count → a ≡ built_over (told h a₀ b₀ c₀).verdict (built_rows aevt_row h) a₀
      → n * words ≤ length a
  rows-fit {n} e f =
      let x = answer-fine (told h a₀ b₀ c₀).verdict (told h a₀ b₀ c₀).count n e in
      rw x.1 at (count_fits h (length a₀) (length b₀) (length c₀) {r = told h a₀ b₀ c₀} refl x.0 a₀ f)

  module _ {k : ℕ} {out out' : List ℕ} (x : length a₀ ≡ heap_words) (y : length b₀ ≡ heap_words) (z : length c₀ ≡ heap_words) where
    pub heap-built : {n : ℕ} → Ok n ≡ answer (told h a₀ b₀ c₀).verdict (told h a₀ b₀ c₀).count
        → a ≡ built_over (told h a₀ b₀ c₀).verdict (built_rows aevt_row h) a₀ → b ≡ built_over (told h a₀ b₀ c₀).verdict (built_rows avet_row h) b₀
        → c ≡ built_over (told h a₀ b₀ c₀).verdict (built_rows eavt_row h) c₀
        → Answered (table_parts (take (n * words) a) (take (n * words) b) (take (n * words) c)) out k out' → Answered (heap_answer_for h) out k out'
    heap-built {n} e f g i w =
        let m = answer-fine (told h a₀ b₀ c₀).verdict (told h a₀ b₀ c₀).count n e in
        answer-built h (length a₀) (length b₀) (length c₀) {r = told h a₀ b₀ c₀} x y z refl a₀ b₀ c₀ m.0 f g i (rw m.1 w)

    pub heap-refused : {r : Refusal} → Err r ≡ answer (told h a₀ b₀ c₀).verdict (told h a₀ b₀ c₀).count
        → Written (refusal_line (number_in r.rule) r.place) 0 out k out' → Answered (heap_answer_for h) out k out'
    heap-refused {r} e w =
        answer-refused h (length a₀) (length b₀) (length c₀) {r = told h a₀ b₀ c₀} x y z refl (answer-err (told h a₀ b₀ c₀).verdict (told h a₀ b₀ c₀).count r e) w
