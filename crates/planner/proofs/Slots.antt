-- One statement more: what it does to the array of slots.
use mathlib.Core.Path.{◌≡◌, sym, ap, ◌∙◌}
use Prim.Native.Nat.{ℕ, ◌+◌, ◌≤◌, ◌<◌}
use native.Mathlib.Numerals.{add-one}
use lib.Seq.{take-suc}
use mathlib.Core.List.{List, [], ◌∷◌, ◌++◌, append_assoc, append-nil}
use native.Mathlib.Omega.{arith}
use lib.ListN.{length, take, replicate, length-append, length-replicate}
use Rattle.capacity.specs.Capacity.{max_slots}
use Rattle.lists.specs.Padded.{padded}
use Rattle.lists.proofs.Padded.{padded-same, padded-more}
use Rattle.query.specs.declared.QueryValue.{QueryValue}
use Rattle.query.specs.declared.QueryValue.TheVariants.{Const, Var as Variable}
use Rattle.query.specs.declared.Statement.{Statement}
use Rattle.query.specs.Query.{zero_statement}
use Rattle.query_check.specs.Refusals.{constants_in, constants}
use Rattle.plan.specs.declared.SlotRecord.{SlotRecord}
use Rattle.plan.specs.Plan.{variable_slot}
use Rattle.planner.specs.Planning.{constant_slots, slots_of_constants, slots_for}
use Rattle.planner.specs.Record.{Plannable, constant_in}
use Rattle.planner.proofs.Statements.{constants-more, constants-within, slots-more, length-slots}
use Rattle.planner.proofs.Begun.{statement_at}

-- before the first statement all are variables
pub slots-none : (n : ℕ) → n ≤ max_slots → replicate max_slots variable_slot ≡ padded variable_slot max_slots (slots_for n [])
unfolding slots_of_constants
slots-none n h = rw append-nil (sym (padded-same variable_slot max_slots n h))

-- a constant is stored behind the list
stored : (l : List SlotRecord) (q : QueryValue) → length l + constants_in q ≤ max_slots
    → constant_in (padded variable_slot max_slots l) (length l) q ≡ padded variable_slot max_slots (l ++ constant_slots q)
stored l (Const c) h = padded-more variable_slot max_slots l _ (omega arith)
stored l (Variable x) h = rw append-nil

length-for : (n : ℕ) (l : List Statement) → length (slots_for n l) ≡ n + constants l
length-for n l = length-append (replicate n variable_slot) (slots_of_constants l) ∙ omega (arith, length-replicate n variable_slot, length-slots l)

pub slots-step : (n : ℕ) (l : List Statement) (s : Statement) → n + constants l + constants_in s.value ≤ max_slots
    → constant_in (padded variable_slot max_slots (slots_for n l)) (n + constants l) s.value ≡ padded variable_slot max_slots (slots_for n (l ++ (s ∷ [])))
slots-step n l s h =
    rw (slots-more l s, ← append_assoc (replicate n variable_slot) (slots_of_constants l) (constant_slots s.value), ← length-for n l)
    (stored (slots_for n l) s.value (rw (length-for n l) h))

module _ (n : ℕ) (ss : List Statement) (fits : Plannable n (length ss) ss) (i : ℕ) (h : i < length ss) where
  front : take (i + 1) ss ≡ take i ss ++ (statement_at ss i ∷ [])
  front = rw add-one (take-suc ss i zero_statement h)

  -- there is a slot for a constant of statement i
  pub slots-room : n + constants (take i ss) + constants_in (statement_at ss i).value ≤ max_slots
  slots-room =
      let e = ap constants front ∙ constants-more (take i ss) (statement_at ss i) in
      omega (arith, e, constants-within ss (i + 1) (length ss) (omega arith), fits.few_slots)

  -- and with it the slots are those of one statement more
  pub slots-turn : (slots : List SlotRecord) (next : ℕ) → next ≡ n + constants (take i ss) → slots ≡ padded variable_slot max_slots (slots_for n (take i ss))
      → (next + constants_in (statement_at ss i).value ≡ n + constants (take (i + 1) ss)) × (constant_in slots next (statement_at ss i).value ≡ padded variable_slot max_slots (slots_for n (take (i + 1) ss)))
  slots-turn slots next e f =
      (rw (front, constants-more (take i ss) (statement_at ss i)) (omega (arith, e)), rw (front, f, e) (slots-step n (take i ss) (statement_at ss i) slots-room))
