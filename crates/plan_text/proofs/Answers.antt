-- The text's length and the buffer after it, from what was written.
use mathlib.Core.Path.{◌≡◌, refl, ap, ◌∙◌}
use mathlib.Core.List.{List, ◌++◌}
use Prim.Native.Nat.{ℕ, ◌+◌, ◌≤◌}
use native.Mathlib.Omega.{arith}
use borrow.Author.Tests.{ltb-false}
use lib.Dec.{ltb}
use lib.ListN.{length, drop}
use lib.Seq.{sets-eq}
use Rattle.refusal.specs.Verdict.{Refusal, Verdict}
use Rattle.std.specs.Prelude.{Result, Ok, Err}
use Rattle.refusal.specs.Verdict.{answer, unless}
use Rattle.refusal.proofs.Fine.{refuse-fine, or-fine}
use Rattle.plan.specs.declared.Plan.{Plan}
use Rattle.text_pieces.specs.Written.{Written}
use Rattle.text_names.specs.Names.{names_fault}
use Rattle.plan_text.specs.Answered.{Formatted}
use Rattle.plan_text.specs.Text.{text_of}
use Rattle.plan_text.specs.Answer.{text_fault, formatted_of, text_after}

module _ (p : Plan) (names ends : List ℕ) where
  abbrev text : List ℕ
  text = text_of p names ends

  module _ (room : ℕ) where
    abbrev formatted : Verdict → Formatted
    formatted v = unless v (λ u. record { verdict = u; length = 0 }) (record { verdict = Ok tt; length = length text })

    -- the verdict is the text's
    pub fault-is : (r : Formatted) → r ≡ formatted_of p names ends room → r.verdict ≡ text_fault p names ends room
    unfolding formatted_of
    fault-is r e = rw e (by_cases (text_fault p names ends room))
      where
        by_cases : (v : Verdict) → (formatted v).verdict ≡ v
        by_cases (Ok tt) = refl
        by_cases (Err r) = refl

    -- a length is said only of a text that is not refused
    pub text-fine : (n : ℕ) → ◌≡◌ {A = Result ℕ Refusal} (Ok n) (answer (formatted_of p names ends room).verdict (formatted_of p names ends room).length)
        → text_fault p names ends room ≡ Ok tt
    unfolding formatted_of
    text-fine n e = by_cases (text_fault p names ends room) e
      where
        by_cases : (v : Verdict) → ◌≡◌ {A = Result ℕ Refusal} (Ok n) (answer (formatted v).verdict (formatted v).length) → v ≡ Ok tt
        by_cases (Ok tt) e = refl
        by_cases (Err r) e = cc

    -- a text that is not refused
    pub text-fits : text_fault p names ends room ≡ Ok tt → (names_fault p names ends ≡ Ok tt) × (length text ≤ room)
    unfolding text_fault
    text-fits e =
        let both = or-fine (names_fault p names ends) _ e in
        (both.0, ltb-false _ _ (refuse-fine (ltb room (length text)) _ _ both.1))

  module _ (l : List ℕ) where
    -- it fits, and is written
    pub after-fits : text_fault p names ends (length l) ≡ Ok tt → (at : ℕ) (l' : List ℕ) → Written text 0 l at l' → l' ≡ text_after p names ends l
    unfolding text_after
    after-fits e at l' w =
        let fits : length text ≤ length l = (text-fits (length l) e).1 in
        let start : 0 + length text ≡ length text = omega arith in
        let after : l' ≡ text ++ drop (length text) l = w.buffer_is ∙ sets-eq text l 0 (omega arith) ∙ ap (λ (k : ℕ). text ++ drop k l) start in
        simp e after
