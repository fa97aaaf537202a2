-- Verdicts that are given for a reason, and what it says that a statement is high.
use mathlib.Core.Path.{◌≡◌, refl, ◌∙◌}
use mathlib.Core.Logic.{◌⊎◌, inl, inr, ⊎_elim, ◌↔◌}
use Prim.Native.Nat.{ℕ, ◌+◌, ◌≤◌, ◌<◌}
use native.Mathlib.Nat.{eq-or-lt_of_le}
use native.Mathlib.Omega.{arith}
use mathlib.Core.List.{List}
use mathlib.Core.Bool.{Bool, true, false, ◌||◌, or-true, false≢true}
use borrow.Author.Tests.{leb-true, le-leb, eqb-true, eq-eqb}
use lib.Dec.{leb, eqb}
use Rattle.lists.proofs.Tests.{either}
use Rattle.refusal.specs.Verdict.{Verdict}
use Rattle.std.specs.Prelude.{Ok, Err}
use Rattle.refusal.specs.Verdict.{refused, refuse_if, or_else, refuse_first, Lowest}
use Rattle.refusal.proofs.First.{Fails, refused-lowest}
use Rattle.query.specs.declared.QueryValue.{QueryValue}
use Rattle.query.specs.declared.QueryValue.TheVariants.{Const, Var as Variable}
use Rattle.query.specs.Query.{is_variable}
use Rattle.query_check.specs.Refusals.{high_value}

-- a verdict is fine, or what is said for a reason
abbrev pub Explained : {R : Type 0} → (R → Verdict) → Verdict → Type 0
Explained {R} said v = (v ≡ Ok tt) ⊎ ((w : R) × (v ≡ said w))

module _ {R : Type 0} (said : R → Verdict) where
  -- the first of two
  pub or-explained : (a b : Verdict) → Explained said a → (a ≡ Ok tt → Explained said b) → Explained said (or_else a b)
  or-explained (Ok tt) b x f = f refl
  or-explained (Err r) b x f = x

  -- one that is given where a test holds
  pub if-explained : (t : Bool) (n p : ℕ) → (t ≡ true → (w : R) × (refused n p ≡ said w)) → Explained said (refuse_if t n p)
  if-explained true n p f = inr (f refl)
  if-explained false n p f = inl refl

  -- one that is given at the first item that fails a test, where P says of each place that its item does
  pub first-explained : {A : Type 0} (test : A → Bool) (n : ℕ) (d : A) (P : ℕ → Type 0) (p : ℕ) (xs : List A) → ((j : ℕ) → P j ↔ Fails test d xs j)
      → ((i : ℕ) → Lowest P i → (w : R) × (refused n (p + i) ≡ said w)) → Explained said (refuse_first test n p xs)
  first-explained test n d P p xs fails f =
      ⊎_elim (λ w. inl w.0) (λ w. let r = f w.0 w.1 in inr (r.0, w.2 ∙ r.1)) (refused-lowest test n d P p xs fails)

-- a high statement names a variable that is not below the count, and only such a one does
pub high-names : (n e : ℕ) (v : QueryValue) → (leb n e || high_value n v) ≡ true → (x : ℕ) × ((eqb e x || is_variable v x) ≡ true) × (n ≤ x)
high-names n e (Const c) h =
    ⊎_elim (λ (t : leb n e ≡ true). (e, rw (eq-eqb e e refl) refl, leb-true n e t)) (λ (t : ◌≡◌ {A = Bool} false true). absurd (false≢true t)) (either (leb n e) false h)
high-names n e (Variable x) h =
    ⊎_elim (λ (t : leb n e ≡ true). (e, rw (eq-eqb e e refl) refl, leb-true n e t))
    (λ (t : leb n x.0 ≡ true). (x.0, rw (eq-eqb x.0 x.0 refl) (or-true (eqb e x.0)), leb-true n x.0 t))
    (either (leb n e) (leb n x.0) h)

pub names-high : (n e : ℕ) (v : QueryValue) (x : ℕ) → (eqb e x || is_variable v x) ≡ true → n ≤ x → (leb n e || high_value n v) ≡ true
names-high n e (Const c) x h g =
    ⊎_elim (λ (t : eqb e x ≡ true). rw (le-leb n e (omega (arith, eqb-true e x t))) refl) (λ (t : ◌≡◌ {A = Bool} false true). absurd (false≢true t))
    (either (eqb e x) false h)
names-high n e (Variable y) x h g =
    ⊎_elim (λ (t : eqb e x ≡ true). rw (le-leb n e (omega (arith, eqb-true e x t))) refl)
    (λ (t : eqb y.0 x ≡ true). rw (le-leb n y.0 (omega (arith, eqb-true y.0 x t))) (or-true (leb n e)))
    (either (eqb e x) (eqb y.0 x) h)

-- one place more
pub below_next : (P : ℕ → Type 0) (i : ℕ) → ((j : ℕ) → j < i → P j → ⊥) → (P i → ⊥) → (j : ℕ) → j < i + 1 → P j → ⊥
below_next P i h n j l p =
    let m : j ≤ i = omega arith in
    ⊎_elim (λ (e : j ≡ i). n (rw e at p)) (λ (g : j < i). h j g p) (eq-or-lt_of_le m)
