-- No second answer fits the promises of this crate.
use mathlib.Core.Path.{◌≡◌}
use mathlib.Core.Bool.{Bool}
use mathlib.Core.List.{List}
use Prim.Native.Nat.{ℕ}
use Rattle.refusal.specs.Verdict.{Verdict}
use Rattle.refusal.proofs.OneAnswer.{one_answer}
use Rattle.plan.specs.declared.Plan.{Plan}
use Rattle.plan.specs.declared.SlotRecord.{SlotRecord}
use Rattle.plan.specs.Plan.{constant_at}
use Rattle.text_names.specs.Names.{name_of, names_fault, select_name_fault, select_name_of}

pub check-names-one : (p : Plan) (names ends : List ℕ) (r r' : Verdict) → r ≡ names_fault p names ends → r' ≡ names_fault p names ends → r ≡ r'
check-names-one p names ends r r' = one_answer

pub check-select-name-one : (p : Plan) (names ends : List ℕ) (i : ℕ) (r r' : Verdict) → r ≡ select_name_fault p names ends i → r' ≡ select_name_fault p names ends i → r ≡ r'
check-select-name-one p names ends i r r' = one_answer

pub select-name-one : (p : Plan) (names ends : List ℕ) (i : ℕ) (r r' : List ℕ) → r ≡ select_name_of p names ends i → r' ≡ select_name_of p names ends i → r ≡ r'
select-name-one p names ends i r r' = one_answer

pub name-one : (names ends : List ℕ) (k : ℕ) (r r' : List ℕ) → r ≡ name_of names ends k → r' ≡ name_of names ends k → r ≡ r'
name-one names ends k r r' = one_answer

pub constant-slot-one : (slots : List SlotRecord) (k : ℕ) (r r' : Bool) → r ≡ constant_at slots k → r' ≡ constant_at slots k → r ≡ r'
constant-slot-one slots k r r' = one_answer
