-- Where a call is refused, the words that it names are 0; and where no swap is left, its positions are 0.
use Rattle.std.specs.Prelude.{◌≡◌, ℕ, false, List, [], Err, Some, None, unwrap_or, if◌then◌else◌}
use mathlib.Core.Path.{refl}
use native.Mathlib.Omega.{arith}
use mathlib.Core.List.{◌∷◌}
use Rattle.refusal.specs.Verdict.{Refusal}
use Rattle.plan.specs.declared.Plan.{Plan}
use Rattle.query.specs.declared.Query.{Query}
use Rattle.permutation.specs.declared.Permutations.{Permutations}
use Rattle.permutation.specs.Answered.{NextSwap}
use Rattle.permutation.specs.Swaps.{next_swap_of}
use Rattle.cost.specs.Cost.{cost_of}
use Rattle.search.specs.Search.{Candidate, search_of, first_least}
use Rattle.listing.specs.Next.{next_plan_of}
use Rattle.visits.specs.Visits.{Tables}
use Rattle.eval.specs.Evaluation.{evaluate_of}
use Rattle.text_names.specs.Names.{select_name_fault, select_name_of}
use Rattle.plan_text.specs.Answer.{formatted_of}
use Rattle.image.specs.Image.{stored_of}

pub cost_refused : (p : Plan) (r : Refusal) → (cost_of p).verdict ≡ Err r → (cost_of p).cost ≡ 0
unfolding cost_of
cost_refused p r e = grind arith

first-least-fine : (q : Query) (cs : List Candidate) (r : Refusal) → (first_least q cs).verdict ≡ Err r → (first_least q cs).cost ≡ 0
first-least-fine q [] r e = refl
first-least-fine q (c ∷ cs) r e = cc

pub search_refused : (q : Query) (r : Refusal) → (search_of q).verdict ≡ Err r → (search_of q).cost ≡ 0
unfolding search_of
search_refused q r e = grind (arith, first-least-fine)

pub next_refused : (p : Plan) (r : Refusal) → (next_plan_of p).verdict ≡ Err r → (next_plan_of p).is_new ≡ false
unfolding next_plan_of
next_refused p r e = grind arith

module _ (p : Plan) (ts : Tables) (k room : ℕ) (r : Refusal) (e : (evaluate_of p ts k room).verdict ≡ Err r) where
  pub rows_refused : (evaluate_of p ts k room).count ≡ 0
  unfolding evaluate_of
  rows_refused = grind arith

  pub more_refused : (evaluate_of p ts k room).more ≡ false
  unfolding evaluate_of
  more_refused = grind arith

pub text_refused : (p : Plan) (names ends : List ℕ) (room : ℕ) (r : Refusal)
    → (formatted_of p names ends room).verdict ≡ Err r → (formatted_of p names ends room).length ≡ 0
unfolding formatted_of
text_refused p names ends room r e = grind arith

pub name_refused : (p : Plan) (names ends : List ℕ) (i : ℕ) (r : Refusal) → select_name_fault p names ends i ≡ Err r → select_name_of p names ends i ≡ []
unfolding select_name_of
name_refused p names ends i r e = rw e refl

pub store_refused : (p : Plan) (room : ℕ) (r : Refusal) → (stored_of p room).verdict ≡ Err r → (stored_of p room).length ≡ 0
unfolding stored_of
store_refused p room r e = grind arith

-- a swap's positions, where there is one; else 0
abbrev Zeros : NextSwap → Type 0
Zeros n = n.swap ≡ unwrap_or (if n.is_some then Some n.swap else None) (record { 0 = 0; 1 = 0 })

module _ (s : Permutations) where
  pub swap_refused : (r : Refusal) → (next_swap_of s).next.verdict ≡ Err r → (next_swap_of s).next.is_some ≡ false
  unfolding next_swap_of
  swap_refused r e = grind arith

  pub swap_said : Zeros (next_swap_of s).next
  unfolding next_swap_of
  swap_said = grind arith
