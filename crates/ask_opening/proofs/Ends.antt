-- The ends of names: what is read into a buffer is those of the definition, and where the buffer cuts them they are too many either way.
use mathlib.Core.Path.{◌≡◌, refl, sym, ap, ◌∙◌}
use mathlib.Core.Logic.{⊎_elim}
use mathlib.Core.Bool.{false}
use mathlib.Core.List.{List, [], ◌∷◌, ◌++◌}
use Prim.Native.Nat.{ℕ, zero, suc, ◌+◌, ◌-◌, ◌≤◌, ◌<◌, min}
use native.Mathlib.Nat.{eq-or-lt_of_le, min-le_left}
use native.Mathlib.Omega.{arith}
use lib.Dec.{eqb}
use borrow.Author.Tests.{ne_eqb}
use lib.ListN.{length, take, get_or, replicate, length-append, length-replicate, get_or-replicate, get_or-append}
use lib.Seq.{take-suc, take_all, take-append-le, length-take-le, get_or-append-add}
use Rattle.capacity.specs.Capacity.{max_slots}
use Rattle.lists.specs.Tabled.{tabled}
use Rattle.lists.proofs.Tabled.{tabled-length}
use Rattle.refusal.specs.Verdict.{Verdict}
use Rattle.std.specs.Prelude.{Ok, Err}
use Rattle.refusal.specs.Verdict.{refused, or_else}
use Rattle.plan.specs.declared.Plan.{Plan}
use Rattle.plan_check.specs.Check.{check_of}
use Rattle.plan_check.proofs.Promises.{promises}
use Rattle.text_names.specs.Names.{ends_fault, names_fault}
use Rattle.plan_text.specs.Answer.{text_fault}
use Rattle.ask_question.specs.Asked.{end_of, ends_after, ends_count}
use Rattle.ask_question.proofs.Filled.{end-given, end_none, end-last}
use Rattle.ask_opening.specs.Question.{given_ends, ends_with, ends_of}
use Rattle.ask_opening.specs.Opening.{refusal, showing_fault, opened_with}

-- the first of a list by its places
take-tabled-more : (f : ℕ → ℕ) (n m : ℕ) → n ≤ m → take n (tabled f (suc m)) ≡ take n (tabled f m)
unfolding tabled
take-tabled-more f n m k = take-append-le n (tabled f m) (f m ∷ []) (rw (tabled-length f m) k)

take-tabled : (f : ℕ → ℕ) (n m : ℕ) → n ≤ m → take n (tabled f m) ≡ tabled f n
take-tabled f n zero h = let e : n ≡ 0 = omega arith in rw e (take_all 0 (tabled f 0) (rw (tabled-length f 0) (omega arith)))
take-tabled f n (suc m) h =
    ⊎_elim (λ (e : n ≡ suc m). rw e (take_all (suc m) (tabled f (suc m)) (rw (tabled-length f (suc m)) (omega arith))))
    (λ (l : n < suc m). take-tabled-more f n m (omega arith) ∙ take-tabled f n m (omega arith)) (eq-or-lt_of_le h)

-- past those that are given, the last one
last_end : (given : List ℕ) (i : ℕ) → length given ≤ i → get_or given (length given - 1) 0 ≡ end_of given i
last_end [] i h = end_none [] i h refl
last_end (x ∷ given) i h = end-last (x ∷ given) i h (λ e. let z : suc (length given) ≡ 0 = e in omega arith)

module _ (given : List ℕ) (constants : ℕ) where
  abbrev last : ℕ
  last = get_or given (length given - 1) 0

  all-long : length (ends_with given constants) ≡ length given + constants
  unfolding ends_with
  all-long = length-append given _ ∙ ap (λ (k : ℕ). length given + k) (length-replicate constants _)

  past-given : (i : ℕ) → length given ≤ i → i < length given + constants → get_or (ends_with given constants) i 0 ≡ end_of given i
  unfolding ends_with
  past-given i past h =
      let e : length given + (i - length given) ≡ i = omega arith in
      let at : get_or (given ++ replicate constants last) (length given + (i - length given)) 0 ≡ last =
      get_or-append-add given (replicate constants last) (i - length given) 0 ∙ get_or-replicate constants (i - length given) last 0 (omega arith) in
      (rw e at at) ∙ last_end given i past

  among-given : (i : ℕ) → i < length given → get_or (ends_with given constants) i 0 ≡ end_of given i
  unfolding ends_with
  among-given i h = get_or-append given _ 0 i h ∙ end-given given i h

  end-at : (i : ℕ) → i < length given + constants → get_or (ends_with given constants) i 0 ≡ end_of given i
  end-at i h =
      ⊎_elim (λ (past : min (length given) i ≡ length given). past-given i (omega arith) h) (λ (l : min (length given) i < length given). among-given i (omega arith))
      (eq-or-lt_of_le (min-le_left (length given) i))

  -- as many as are read
  ends_read : (n : ℕ) → n ≤ length given + constants → tabled (end_of given) n ≡ take n (ends_with given constants)
  unfolding tabled
  ends_read zero h = refl
  ends_read (suc n) h =
      sym (take-suc (ends_with given constants) n 0 (rw all-long (omega arith)) ∙ rw (end-at n (omega arith), ends_read n (omega arith)))

  -- what a buffer holds of them
  ends_held : (room : ℕ) → take (ends_count (length given) constants room) (ends_after given room) ≡ take room (ends_with given constants)
  unfolding ends_count
  ends_held room =
      let n : ℕ = min (length given + constants) room in
      take-tabled (end_of given) n room (omega arith) ∙ ends_read n (omega arith) ∙ cut
    where
      cut : take (min (length given + constants) room) (ends_with given constants) ≡ take room (ends_with given constants)
      cut =
          ⊎_elim (λ (all : min (length given + constants) room ≡ length given + constants).
          take_all (min (length given + constants) room) (ends_with given constants) (rw all-long (omega arith)) ∙ sym (take_all room (ends_with given constants) (rw all-long (omega arith))))
          (λ (part : min (length given + constants) room < length given + constants).
          let e : min (length given + constants) room ≡ room = omega arith in ap (λ (k : ℕ). take k (ends_with given constants)) e)
          (eq-or-lt_of_le (min-le_left (length given + constants) room))

-- more ends than slots are refused, whatever they are
module _ (ws : List ℕ) (p : Plan) (cost : ℕ) (names : List ℕ) (room : ℕ) where
  too_many : (ends : List ℕ) → max_slots < length ends → (v : Verdict) → check_of p ≡ v → opened_with ws p cost names ends room ≡ refusal (or_else v (refused 30 0))
  unfolding opened_with showing_fault text_fault names_fault ends_fault
  too_many ends h (Ok tt) e =
      let few = (promises p e).few_slots in
      let other : eqb (length ends) p.slot_count ≡ false = ne_eqb (length ends) p.slot_count (λ s. omega arith) in
      simp (e, other)
  too_many ends h (Err r) e = simp e

  -- so it does not matter where they are cut
  pub cut-ends : (ends : List ℕ) → opened_with ws p cost names (take (max_slots + 1) ends) room ≡ opened_with ws p cost names ends room
  cut-ends ends =
      ⊎_elim (λ (all : min (length ends) max_slots ≡ length ends). ap (λ (es : List ℕ). opened_with ws p cost names es room) (take_all (max_slots + 1) ends (omega arith)))
      (λ (more : min (length ends) max_slots < length ends).
      let long : length (take (max_slots + 1) ends) ≡ max_slots + 1 = length-take-le (max_slots + 1) ends (omega arith) in
      too_many (take (max_slots + 1) ends) (omega arith) (check_of p) refl ∙ sym (too_many ends (omega arith) (check_of p) refl)) (eq-or-lt_of_le (min-le_left (length ends) max_slots))

  -- what is said of the ends that a buffer holds
  pub ends-as-said : (given buffer : List ℕ) (variables constants n : ℕ) → given ≡ given_ends ws → variables ≡ get_or ws 1 0 → constants ≡ p.slot_count - variables
      → n ≡ ends_count (length given) constants (max_slots + 1) → buffer ≡ ends_after given (max_slots + 1)
      → opened_with ws p cost names (take n buffer) room ≡ opened_with ws p cost names (ends_of ws p.slot_count) room
  ends-as-said given buffer variables constants n g v k e f =
      rw (e, f, ends_held given constants (max_slots + 1), cut-ends (ends_with given constants), k, v, g)
