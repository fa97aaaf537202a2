-- 01, "Plan text": names come as one byte slice with an end per slot; the first starts at 0, each other at the end before it.
use Rattle.std.specs.Prelude.{ℕ, zero, suc, ◌-◌, List, [], ◌∷◌, Bool, false, not, ◌||◌, length, get_or, take, drop, ltb, leb, eqb}
use Rattle.refusal.specs.Verdict.{Verdict}
use Rattle.refusal.specs.Verdict.{refuse_if, or_else, unless}
use Rattle.plan.specs.declared.Plan.{Plan}
use Rattle.plan.specs.Plan.{zero_slot, slots_selected}
use Rattle.plan_check.specs.Check.{check_of}

-- where the name of slot k starts
abbrev pub name_start : List ℕ → ℕ → ℕ
name_start ends zero = 0
name_start ends (suc k) = get_or ends k 0

-- the name of slot k, from its start to its end
unfoldable pub name_of : List ℕ → List ℕ → ℕ → List ℕ
name_of names ends k = take (get_or ends k 0 - name_start ends k) (drop (name_start ends k) names)

-- an end falls below the one before it, or passes the name bytes there are
abbrev pub wrong_end : ℕ → ℕ → ℕ → Bool
wrong_end bytes before end = ltb end before || ltb bytes end

abbrev pub wrong_ends : ℕ → ℕ → List ℕ → Bool
wrong_ends bytes before [] = false
wrong_ends bytes before (e ∷ es) = wrong_end bytes before e || wrong_ends bytes e es

-- 30: name ends fall, pass the name bytes, or aren't one per slot
unfoldable pub ends_fault : List ℕ → List ℕ → ℕ → Verdict
ends_fault names ends slots = refuse_if (not (eqb (length ends) slots) || wrong_ends (length names) 0 ends) 30 0

-- what text and name begin with: the plan check, then 30
unfoldable pub names_fault : Plan → List ℕ → List ℕ → Verdict
names_fault p names ends = or_else (check_of p) (ends_fault names ends p.slot_count)

-- the slot of select i
abbrev pub select_at : Plan → ℕ → ℕ
select_at p i = (get_or (slots_selected p) i zero_slot).0

-- a select's name: the plan check, which leaves no constant among the selects (`name-of-variable`), 30; 26: no such select
unfoldable pub select_name_fault : Plan → List ℕ → List ℕ → ℕ → Verdict
select_name_fault p names ends i = or_else (names_fault p names ends) (refuse_if (leb p.select_count i) 26 i)

-- that part of the name bytes, empty where it is refused
unfoldable pub select_name_of : Plan → List ℕ → List ℕ → ℕ → List ℕ
select_name_of p names ends i = unless (select_name_fault p names ends i) (λ _. []) (name_of names ends (select_at p i))
