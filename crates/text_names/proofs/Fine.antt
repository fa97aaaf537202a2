-- What it says that the plan check and the name ends are fine.
use mathlib.Core.Path.{◌≡◌, refl}
use Prim.Native.Nat.{ℕ, ◌<◌}
use mathlib.Core.Bool.{Bool, true, false, not, ◌||◌}
use mathlib.Core.List.{List}
use borrow.Author.Tests.{eqb-true, leb-false}
use lib.ListN.{length}
use lib.Dec.{eqb}
use Rattle.std.specs.Prelude.{Ok}
use Rattle.refusal.proofs.Fine.{refuse-fine, or-fine}
use Rattle.plan.specs.declared.Plan.{Plan}
use Rattle.plan.specs.Plan.{constant_at, slots_of, slots_selected, Counted}
use Rattle.plan.proofs.Counts.{counts-fine}
use Rattle.plan_check.specs.Check.{check_of}
use Rattle.plan_check.proofs.Promises.{promises}
use Rattle.text_names.specs.Names.{ends_fault, names_fault, select_at, select_name_fault}

neither : (s t : Bool) → (not s || t) ≡ false → s ≡ true
neither true t e = refl
neither false t e = cc

-- the counts are within the capacities, and there is an end for each slot
pub names-fine : (p : Plan) (names ends : List ℕ) → names_fault p names ends ≡ Ok tt
    → Counted p.scan_count p.slot_count p.select_count × (length ends ≡ p.slot_count)
unfolding names_fault check_of ends_fault
names-fine p names ends e =
    let both = or-fine (check_of p) _ e in
    (counts-fine _ _ _ (or-fine _ _ both.0).0, eqb-true _ _ (neither (eqb (length ends) p.slot_count) _ (refuse-fine _ _ _ both.1)))

-- the select whose name is asked is there
pub select-fine : (p : Plan) (names ends : List ℕ) (i : ℕ) → select_name_fault p names ends i ≡ Ok tt
    → (i < p.select_count) × Counted p.scan_count p.slot_count p.select_count
unfolding select_name_fault
select-fine p names ends i e =
    let both = or-fine (names_fault p names ends) _ e in
    (leb-false p.select_count i (refuse-fine _ _ _ both.1), (names-fine p names ends both.0).0)

-- asking a name cannot meet a constant
pub name-of-variable : (p : Plan) (names ends : List ℕ) (i : ℕ) → select_name_fault p names ends i ≡ Ok tt → i < length (slots_selected p)
    → constant_at (slots_of p) (select_at p i) ≡ false
unfolding select_name_fault names_fault
name-of-variable p names ends i e h = (promises p (or-fine (check_of p) _ (or-fine (names_fault p names ends) _ e).0).0).selects_variable i h
